use Rattle.std.proofs.Common.{◌<◌, arith}
use Rattle.bit_addressing.specs.Memory.{read_by}
use Rattle.bit_addressing.proofs.MemoryLemmas.{memory_copied}
use Rattle.bit_addressing_tests.proofs.callers.move_list.Goals as goal

pub returns-clause-moved : goal.returns-clause-moved
returns-clause-moved g c =
    let b = g.R.BitRegister.BITS in
    let reading = read_by g.R.BitRegister g.O.Positions.position in
    let before = c.args.words.now in
    let some : 0 < b = omega (arith, g.met.R.BitRegister.least_bits) in
    memory_copied reading before c.move_within.new.words reading before c.args.source c.args.target c.args.len some some
    c.requires.source_within c.requires.target_within c.move_within.ensures.moved

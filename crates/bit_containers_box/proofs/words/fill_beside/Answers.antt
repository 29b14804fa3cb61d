use Rattle.std.proofs.Common.{◌≡◌, ◌*◌, length, arith, ap}
use Rattle.bit_addressing_memory.specs.Memory.{read_by}
use Rattle.bit_containers_box.proofs.FillLemmas.{filled_beside}
use Rattle.bit_containers_box.proofs.words.fill_beside.Goals as goal

pub returns-clause-written : goal.returns-clause-written
returns-clause-written g c =
    let words = c.args.words.now in
    let all : length words * c.bits_of.result ≡ length words * g.T.BitRegister.BITS =
    ap (λ b. length words * b) c.bits_of.ensures in
    filled_beside (read_by g.T.BitRegister g.O.Positions.position) words c.fill_in.new.words c.fill_in-2.new.words
    c.args.place c.args.len (length words * c.bits_of.result) c.args.bit
    (omega (arith, g.met.T.BitRegister.least_bits)) all (omega (arith, all, c.requires.within))
    c.fill_in.ensures.filled c.fill_in-2.ensures.filled

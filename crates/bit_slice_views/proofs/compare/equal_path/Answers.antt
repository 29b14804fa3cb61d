use Rattle.std.proofs.Common.{◌<◌, arith}
use Rattle.bit_addressing_memory.specs.Memory.{read_by}
use Rattle.bit_slice_views.proofs.CompareLemmas.{windows_told}
use Rattle.bit_slice_views.proofs.compare.equal_path.Goals as goal

pub returns : goal.returns
returns g c =
    let some : 0 < g.T.BitRegister.BITS = omega (arith, g.met.T.BitRegister.least_bits) in
    windows_told (read_by g.T.BitRegister g.O.Positions.position) c.args.words.now c.args.others.now c.args.place
    c.args.other_place c.args.len c.equal.result some c.requires.within c.requires.other_within c.equal.ensures.value

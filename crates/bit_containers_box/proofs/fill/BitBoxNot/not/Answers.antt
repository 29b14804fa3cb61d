use Rattle.std.proofs.Common.{arith, refl}
use Rattle.bit_addressing_memory.specs.Memory.{read_by}
use Rattle.bit_containers_box.proofs.FillLemmas.{words_flipped}
use Rattle.bit_containers_box.proofs.fill.BitBoxNot.not.Goals as goal

pub returns : goal.returns
returns g c =
    let b = c.args.self in
    words_flipped (read_by g.T.BitRegister g.O.Positions.position) b _ (omega (arith, g.met.T.BitRegister.least_bits))
    b.fits refl refl c.words_taken-count.result c.words_taken-count.ensures c.flip_first.ensures.size
    c.flip_first.ensures.rest c.flip_first.ensures.first

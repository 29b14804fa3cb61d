use Rattle.std.proofs.Common.{arith, refl}
use Rattle.bit_addressing_memory.specs.Memory.{read_by}
use Rattle.bit_containers_box.proofs.FillLemmas.{beside_filled}
use Rattle.bit_containers_box.proofs.boxed.BitBox.fill_uninitialized.Goals as goal

pub returns : goal.returns
returns g c =
    let b = c.args.self.now in
    beside_filled (read_by g.T.BitRegister g.O.Positions.position) b _ (omega (arith, g.met.T.BitRegister.least_bits))
    b.fits refl refl c.words_taken-count.result c.words_taken-count.ensures c.fill_first.ensures.size
    c.fill_first.ensures.rest c.args.bit c.fill_first.ensures.first

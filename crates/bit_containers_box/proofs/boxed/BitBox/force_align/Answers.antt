use Rattle.std.proofs.Common.{arith, refl}
use Rattle.bit_addressing_memory.specs.Memory.{read_by}
use Rattle.bit_containers_box.proofs.FillLemmas.{aligned}
use Rattle.bit_containers_box.proofs.boxed.BitBox.force_align.Goals as goal

pub returns : goal.returns
returns g c =
    let b = c.args.self.now in
    aligned (read_by g.T.BitRegister g.O.Positions.position) b _ (omega (arith, g.met.T.BitRegister.least_bits)) b.fits
    refl refl c.move_first.ensures

use Rattle.std.proofs.Common.{arith, refl}
use Rattle.bit_addressing_memory.specs.Memory.{read_by}
use Rattle.bit_containers_vector.proofs.FillLemmas.{aligned}
use Rattle.bit_containers_vector.proofs.vector.BitVec.force_align.Goals as goal

pub returns : goal.returns
returns g c =
    let v = c.args.self.now in
    aligned (read_by g.T.BitRegister g.O.Positions.position) v _ (omega (arith, g.met.T.BitRegister.least_bits)) v.fits
    refl refl c.shift.ensures.capacity c.shift.ensures.moved

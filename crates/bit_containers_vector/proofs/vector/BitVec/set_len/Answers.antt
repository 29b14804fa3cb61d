use Rattle.std.proofs.Common.{arith, refl}
use Rattle.bit_addressing_memory.specs.Memory.{read_by}
use Rattle.bit_containers_vector.proofs.VectorLemmas.{shown}
use Rattle.bit_containers_vector.proofs.vector.BitVec.set_len.Goals as goal

pub returns : goal.returns
returns g c =
    let v = c.args.self.now in
    shown (read_by g.T.BitRegister g.O.Positions.position) v _ c.args.len (omega (arith, g.met.T.BitRegister.least_bits))
    v.fits refl refl refl refl c.requires.shown

use Rattle.std.proofs.Common.{arith, refl}
use Rattle.bit_addressing_memory.specs.Memory.{read_by}
use Rattle.bit_containers_vector.proofs.VectorLemmas.{shortened}
use Rattle.bit_containers_vector.proofs.vector.BitVec.truncate.Goals as goal

pub returns-then-len-self : goal.returns-then-len-self
returns-then-len-self g c =
    let v = c.args.self.now in
    shortened (read_by g.T.BitRegister g.O.Positions.position) v _ c.args.len
    (omega (arith, g.met.T.BitRegister.least_bits)) v.fits refl refl refl (omega (arith, c.if-len-self.true)) (λ _. refl)
    (λ high. absurd (omega (arith, c.if-len-self.true)))

pub returns-else-len-self : goal.returns-else-len-self
returns-else-len-self g c =
    let v = c.args.self.now in
    shortened (read_by g.T.BitRegister g.O.Positions.position) v v c.args.len
    (omega (arith, g.met.T.BitRegister.least_bits)) v.fits refl refl refl (omega arith)
    (λ low. omega (arith, c.if-len-self.false)) (λ _. refl)

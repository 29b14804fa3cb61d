use Rattle.std.proofs.Common.{◌<◌}
use Rattle.std.proofs.Common.{arith, refl}
use Rattle.bit_addressing_memory.specs.Memory.{read_by}
use Rattle.bit_containers_vector.proofs.MadeLemmas.{holds_copy}
use Rattle.bit_containers_vector.proofs.ZeroLemmas.{zero_digit}
use Rattle.bit_containers_vector.proofs.vector.BitVec.clone.Goals as goal

pub returns : goal.returns
returns g c =
    let reading = read_by g.T.BitRegister g.O.Positions.position in
    let some : 0 < g.T.BitRegister.BITS = omega (arith, g.met.T.BitRegister.least_bits) in
    let v = c.args.self.now in
    let made = (c.in_ok-made.ensures) in
    holds_copy reading reading g.T.BitRegister.ZERO _ (c.in_ok-made.made).words.items v.words.items v.head v.head v.len v.head
    _ some some
    (zero_digit g.T.BitRegister.number g.O.Positions.position g.T.BitRegister.ZERO g.met.T.BitRegister.zero_is)
    made.words made.head made.len refl v.fits (rw (← c.as_slice.ensures.value) c.copy.ensures.copied) refl

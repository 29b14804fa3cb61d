use Rattle.std.proofs.Common.{◌<◌, arith, length, refl}
use Rattle.bit_addressing_memory.specs.Memory.{read_by}
use Rattle.bit_slice_access.proofs.MaskedLemmas.{masked_words}
use Rattle.bit_slice_access.proofs.domain_mut.WindowDomainMut.as_domain.Goals as goal

pub returns-clause-masked : goal.returns-clause-masked
returns-clause-masked g c =
    let reading = read_by g.V.Store.BitRegister g.V.Order.Positions.position in
    let v = c.args.self.now.of.now in
    let some : 0 < reading.bits = omega (arith, g.met.V.Store.BitRegister.least_bits) in
    masked_words reading g.V.Order.Positions.position (g.V.BitsMut.words v) (g.V.BitsMut.place v)
    (length (g.V.Bits.bits v)) (g.V.Bits.bits v) _ some (g.met.V.BitsMut.window v) refl
    (rw (← g.met.V.BitsMut.starts v) c.domain.ensures.masked)

use Rattle.std.proofs.Common.{◌<◌, arith, refl}
use Rattle.bit_addressing_memory.specs.Memory.{read_by}
use Rattle.bit_slice_views_mut.specs.View.{view_bits, view_head, view_words}
use Rattle.bit_slice_access.proofs.MaskedLemmas.{masked_bits}
use Rattle.bit_slice_access.proofs.parts.BitsParts.domain.Goals as goal

pub returns-clause-masked : goal.returns-clause-masked
returns-clause-masked g c =
    let reading = read_by g.Self.Store.BitRegister g.Self.Order.Positions.position in
    let view = c.as_bitslice.result in
    let some : 0 < reading.bits = omega (arith, g.met.Self.Store.BitRegister.least_bits) in
    rw (← c.as_bitslice.ensures.head, ← c.as_bitslice.ensures.bits)
    (masked_bits reading g.Self.Order.Positions.position (view_words view) (view_head view) _ (view_bits reading view) _
    some refl c.domain.ensures.masked)

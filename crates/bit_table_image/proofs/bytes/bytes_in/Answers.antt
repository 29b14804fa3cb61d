use Rattle.std.proofs.Common.{arith, length, ap, sym, subst}
use Rattle.bit_addressing_memory.specs.Memory.{read_by}
use Rattle.bit_slice_views.specs.View.{view_bits}
use Rattle.bit_table_image.specs.Bytes.{HoldBits}
use Rattle.bit_table_image.proofs.ByteLemmas.{holds_bits}
use Rattle.bit_table_image.proofs.bytes.bytes_in.Goals as goal

pub extend_from_bitslice-requires : goal.extend_from_bitslice-requires
extend_from_bitslice-requires g c =
    omega (arith, ap length c.in_ok-image.ensures.bits, c.parts-len.ensures.len, c.parts-len.ensures.short)

pub returns : goal.returns
returns g c =
    let at = g.P.Positions.position in
    let new = c.extend_from_bitslice.new.self in
    let ys = view_bits (read_by g.T.BitRegister g.O.Positions.position) c.args.bits in
    let small = rw (c.as_slice.ensures.value, c.into_vec-bytes.ensures.items) at c.are_bytes.ensures in
    subst (λ bytes. HoldBits at bytes ys) (sym c.into_vec-bytes.ensures.items)
    (holds_bits at c.in_ok-image.image new ys c.in_ok-image.ensures.bits c.in_ok-image.ensures.head new.fits
    small c.in_ok-extend_from_bitslice.ensures.ok)

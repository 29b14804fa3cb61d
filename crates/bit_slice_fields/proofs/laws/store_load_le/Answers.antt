use Rattle.std.proofs.Common.{◌≡◌, ◌<◌, ◌∙◌, ℕ, true, length, ap, subst, arith}
use Rattle.bit_slice_fields.specs.Number.{field_bits}
use Rattle.bit_slice_fields.specs.Whole.{FitsIn}
use Rattle.bit_slice_fields.proofs.CallerLemmas.{held_number}
use Rattle.bit_slice_fields.proofs.laws.store_load_le.Goals as goal

pub returns-clause-value : goal.returns-clause-value
returns-clause-value g c =
    let v = c.args.view.now in
    let u = c.store_le.new.self in
    let n : ℕ = length (g.V.Bits.bits v) in
    let b : ℕ = g.V.Store.BitRegister.BITS in
    let low = g.V.BitField.low_first in
    let held = g.M.Integral.whole c.load_le.result in
    let some : 0 < b = omega (arith, g.met.V.Store.BitRegister.least_bits) in
    let fits : FitsIn g.M.Integral.signed n held =
    subst (λ k. FitsIn g.M.Integral.signed k held) c.store_le.ensures.len c.load_le.ensures.within in
    let bits : g.V.Bits.bits u ≡ field_bits low true b (g.V.BitField.head v) n held =
    c.load_le.ensures.bits
    ∙ ap (λ k. field_bits low true b (g.V.BitField.head u) k held) c.store_le.ensures.len
    ∙ ap (λ h. field_bits low true b h n held) c.store_le.ensures.head in
    held_number low true b (g.V.BitField.head v) n (g.V.Bits.bits u) held (g.M.Integral.whole c.args.value)
    g.M.Integral.signed some c.requires.some fits bits c.store_le.ensures.bits

-- What the users of numbers in windows need.
--
-- A load after a store: `held_number`. The pairs that lie in window order, whatever the start: `up_bits` (the first
-- segment lowest, each from its lowest end), `down_bits`.
use Rattle.std.proofs.Common.{◌≡◌, ℕ, ◌-◌, ◌<◌, Bool, true, false, List, sym, ap, ◌∙◌, arith}
use Rattle.std.specs.Prelude.{ℤ}
use Rattle.std.proofs.lemmas.List.{ext_get_or}
use Rattle.bit_addressing_memory.specs.Bits.{digit_at, bits_in_order}
use Rattle.bit_addressing_memory.proofs.OrderCallerLemmas.{get_or-bits_in_order, length-bits_in_order}
use Rattle.bit_slice_fields.specs.Number.{weight, field_bits}
use Rattle.bit_slice_fields.specs.Whole.{FitsIn, low_digits, wrapped}
use Rattle.bit_slice_fields.proofs.DigitsLemmas.{same_digits}
use Rattle.bit_slice_fields.proofs.WeightLemmas.{weight_up, weight_down}
use Rattle.bit_slice_fields.proofs.WholeLemmas.{same_wrapped}

-- a number of n digits that a window holds, in which `stored` was stored, is that one cut to n digits
pub held_number : (low le : Bool) (b head n : ℕ) (bits : List Bool) (held stored : ℤ) (signed : Bool) → 0 < b → 0 < n
    → FitsIn signed n held → bits ≡ field_bits low le b head n held → bits ≡ field_bits low le b head n stored
    → held ≡ wrapped signed n stored
held_number low le b head n bits held stored signed some any fits is was =
    same_wrapped signed n held stored any fits (same_digits low le b head n held stored some (sym is ∙ was))

-- the digits of a number in two orders that are one
same_order : (at other : ℕ → ℕ) (n d : ℕ) → ((i : ℕ) → i < n → at i ≡ other i)
    → bits_in_order at n d ≡ bits_in_order other n d
same_order at other n d same =
    ext_get_or false (bits_in_order at n d) (bits_in_order other n d)
    (length-bits_in_order at n d ∙ sym (length-bits_in_order other n d))
    (λ i h.
    let inside : i < n = omega (arith, h, length-bits_in_order at n d) in
    get_or-bits_in_order at n d i false inside
    ∙ ap (digit_at d) (same i inside)
    ∙ sym (get_or-bits_in_order other n d i false inside))

-- `le` under an order that counts from the lowest digit: the lowest digit first
pub up_bits : (b head n : ℕ) (z : ℤ) → 0 < b
    → field_bits true true b head n z ≡ bits_in_order (λ i. i) n (low_digits n z)
up_bits b head n z some =
    same_order (weight true true b head n) (λ i. i) n (low_digits n z) (λ i inside. weight_up b head n i some inside)

-- `be` under an order that counts from the highest: the highest digit first
pub down_bits : (b head n : ℕ) (z : ℤ) → 0 < b
    → field_bits false false b head n z ≡ bits_in_order (λ i. n - 1 - i) n (low_digits n z)
down_bits b head n z some =
    same_order (weight false false b head n) (λ i. n - 1 - i) n (low_digits n z)
    (λ i inside. weight_down b head n i some inside)

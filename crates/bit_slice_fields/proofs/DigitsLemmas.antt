-- The digits of a number and the bits of a window.
--
-- Gathered bit by bit: `gathered_none`, `gathered_more`, `gathered_all`; piece by piece: `PieceLemmas`. What the gathered
-- number is: `held_bits`.
-- What the digits that were written are: `stored_bits`. One list of bits tells one number: `same_digits`. A digit of a
-- part of a number: `low_digit`; told by its truth value: `same_digit`.
use Rattle.std.proofs.Common.{◌≡◌, ◌≢◌, ℕ, ◌+◌, ◌/◌, ◌%◌, ◌^◌, ◌<◌, ◌≤◌, Bool, true, false, List, get_or, length}
use Rattle.std.proofs.Common.{cond, bit_or, arith, sym, ap, ◌∙◌, inl, inr, subst, ◌==◌}
use Rattle.std.specs.Prelude.{ℤ}
use Rattle.std.specs.Int.{bit_at}
use Rattle.std.proofs.Math.Pow.{pow_pos, pow-lt}
use Rattle.std.proofs.lemmas.Bool.{cases_lt, cases_eq, eqb-true, eqb-false, eq-eqb, ne_eqb}
use Rattle.std.proofs.lemmas.List.{ext_get_or}
use Rattle.std.proofs.lemmas.Nat.{or_lt, div-add-mod'}
use Rattle.std.proofs.lemmas.Nat.Bits.{bit_at_or, bit_at-pow_same, bit_at-pow_other, bit_at-lt, bit_at-zero}
use Rattle.std.proofs.lemmas.Nat.Bits.{bit_at_cat_low, same_from_bits_below}
use Rattle.bit_addressing_memory.specs.Bits.{digit_at, bits_in_order}
use Rattle.bit_addressing_memory.proofs.OrderCallerLemmas.{get_or-bits_in_order, length-bits_in_order}
use Rattle.bit_slice_fields.specs.Digits.{Gathered, HasDigits}
use Rattle.bit_slice_fields.specs.Number.{weight, field_bits}
use Rattle.bit_slice_fields.specs.Whole.{low_digits}
use Rattle.bit_slice_fields.proofs.WeightLemmas.{weight_within, weights_apart, weight_onto}
use Rattle.bit_slice_fields.proofs.WholeLemmas.{low_mod, low_digits-lt}

-- ---- gathered bit by bit

pub gathered_none : (weighs : ℕ → ℕ) (bits : List Bool) → Gathered weighs bits 0 0
gathered_none weighs bits = record {
  below = λ k h. absurd (omega arith);
  above = λ k _ _. bit_at-zero (weighs k);
  small = pow_pos (length bits);
}

pub gathered_all : (weighs : ℕ → ℕ) (bits : List Bool) (n d : ℕ) → n ≡ length bits → Gathered weighs bits n d
    → HasDigits weighs bits d
gathered_all weighs bits n d size h = record {
  digits = λ i low. h.below i (omega arith);
  small = h.small;
}

gathered_zero : (weighs : ℕ → ℕ) (bits : List Bool) (i d : ℕ) → i < length bits → get_or bits i false ≡ false
    → Gathered weighs bits i d → Gathered weighs bits (i + 1) d
gathered_zero weighs bits i d low bit h = record {
  below = λ k less. elim (cases_lt k i) [
    | inl before ↦ h.below k before
    | inr here ↦
        let same : k ≡ i = omega arith in
        rw (same, h.above i (omega arith) low) (sym bit)
  ];
  above = λ k more lt. h.above k (omega arith) lt;
  small = h.small;
}

gathered_one : (weighs : ℕ → ℕ) (bits : List Bool) (i d : ℕ) → i < length bits → weighs i < length bits
    → ((j k : ℕ) → j < length bits → k < length bits → weighs j ≡ weighs k → j ≡ k)
    → get_or bits i false ≡ true → Gathered weighs bits i d
    → Gathered weighs bits (i + 1) (bit_or d (2 ^ weighs i))
gathered_one weighs bits i d low within apart bit h =
    let n = length bits in
    let fits : 2 ^ weighs i < 2 ^ n = pow-lt within in
    record {
      below = λ k less. elim (cases_lt k i) [
        | inl before ↦
            let other : weighs k ≢ weighs i = λ e. absurd (omega (arith, apart k i (omega arith) low e)) in
            let kept : bit_at (bit_or d (2 ^ weighs i)) (weighs k) ≡ bit_at d (weighs k) =
            omega (arith, bit_at_or d (2 ^ weighs i) (weighs k), bit_at-pow_other (weighs i) (weighs k) other) in
            rw kept (h.below k before)
        | inr here ↦
            let same : k ≡ i = omega arith in
            let made : bit_at (bit_or d (2 ^ weighs i)) (weighs i) ≡ 1 =
            omega (arith, bit_at_or d (2 ^ weighs i) (weighs i), bit_at-pow_same (weighs i), bit_at-lt d (weighs i)) in
            rw (same, made) (sym bit)
      ];
      above = λ k more lt.
          let other : weighs k ≢ weighs i = λ e. absurd (omega (arith, apart k i lt low e)) in
          omega (
            arith,
            bit_at_or d (2 ^ weighs i) (weighs k),
            bit_at-pow_other (weighs i) (weighs k) other,
            h.above k (omega arith) lt,
          );
      small = or_lt n d (2 ^ weighs i) h.small fits;
    }

pub gathered_more : (low le : Bool) (b head n i d e w : ℕ) (bits : List Bool) (bit : Bool) → 0 < b → n ≡ length bits
    → i < n → w ≡ weight low le b head n i → bit ≡ get_or bits i false → e ≡ cond bit (bit_or d (2 ^ w)) d
    → Gathered (weight low le b head (length bits)) bits i d
    → Gathered (weight low le b head (length bits)) bits (i + 1) e
gathered_more low le b head n i d e w bits true some size inside is_weight is_bit made h =
    let low_i : i < length bits = omega arith in
    let at : w ≡ weight low le b head (length bits) i =
    is_weight ∙ ap (λ m. weight low le b head m i) size in
    rw (made, at) (gathered_one (weight low le b head (length bits)) bits i d low_i
    (weight_within low le b head (length bits) i some low_i)
    (λ j k hj hk e. weights_apart low le b head (length bits) j k some hj hk e) (sym is_bit) h)
gathered_more low le b head n i d e w bits false some size inside is_weight is_bit made h =
    rw made (gathered_zero (weight low le b head (length bits)) bits i d (omega arith) (sym is_bit) h)

-- the window holds each number that has its digits
pub held_bits : (low le : Bool) (b head d : ℕ) (bits : List Bool) (z : ℤ)
    → HasDigits (weight low le b head (length bits)) bits d → low_digits (length bits) z ≡ d
    → bits ≡ field_bits low le b head (length bits) z
held_bits low le b head d bits z is same =
    let n = length bits in
    let weighs = weight low le b head n in
    ext_get_or false bits (bits_in_order weighs n (low_digits n z)) (sym (length-bits_in_order weighs n (low_digits n z)))
    (λ i inside.
    sym (is.digits i inside)
    ∙ ap (λ x. digit_at x (weighs i)) (sym same)
    ∙ sym (get_or-bits_in_order weighs n (low_digits n z) i false inside))

-- ---- written

-- the lowest n digits of a number have its digits
pub low_digit : (n p x : ℕ) → p < n → bit_at (x % 2 ^ n) p ≡ bit_at x p
low_digit n p x lt =
    sym (ap (λ y. bit_at y p) (sym (div-add-mod' x (2 ^ n))) ∙ bit_at_cat_low (x / 2 ^ n) n (x % 2 ^ n) p lt)

-- of all digits those are written that the window has room for
pub stored_bits : (low le : Bool) (b head n : ℕ) (z : ℤ) → 0 < b → n ≤ 128
    → bits_in_order (weight low le b head n) n (low_digits 128 z) ≡ field_bits low le b head n z
stored_bits low le b head n z some few =
    let weighs = weight low le b head n in
    let all = bits_in_order weighs n (low_digits 128 z) in
    let size = length-bits_in_order weighs n (low_digits 128 z) in
    ext_get_or false all (bits_in_order weighs n (low_digits n z))
    (size ∙ sym (length-bits_in_order weighs n (low_digits n z)))
    (λ i h.
    let inside : i < n = omega (arith, size, h) in
    let w : ℕ = weighs i in
    let within : w < n = weight_within low le b head n i some inside in
    get_or-bits_in_order weighs n (low_digits 128 z) i false inside
    ∙ ap (λ x. x == 1) (sym (low_digit n w (low_digits 128 z) within) ∙ ap (λ x. bit_at x w) (low_mod n z few))
    ∙ sym (get_or-bits_in_order weighs n (low_digits n z) i false inside))

-- ---- one list, one number

pub same_digit : (a b : ℕ) → a < 2 → b < 2 → (a == 1) ≡ (b == 1) → a ≡ b
same_digit a b small_a small_b same = elim (cases_eq a 1) [
  | inl one ↦ one ∙ sym (eqb-true b 1 (sym same ∙ eq-eqb a 1 one))
  | inr other ↦
      let also : b ≢ 1 = eqb-false b 1 (sym same ∙ ne_eqb a 1 other) in
      omega arith
]

pub same_digits : (low le : Bool) (b head n : ℕ) (y z : ℤ) → 0 < b
    → field_bits low le b head n y ≡ field_bits low le b head n z → low_digits n y ≡ low_digits n z
same_digits low le b head n y z some same =
    let weighs = weight low le b head n in
    let d = low_digits n y in
    let e = low_digits n z in
    same_from_bits_below n d e (low_digits-lt n y) (low_digits-lt n z) (λ p small.
    let w = weight_onto low le b head n p some small in
    let there : digit_at d (weighs w.0) ≡ digit_at e (weighs w.0) =
    sym (get_or-bits_in_order weighs n d w.0 false w.1)
    ∙ ap (λ xs. get_or xs w.0 false) same
    ∙ get_or-bits_in_order weighs n e w.0 false w.1 in
    same_digit (bit_at d p) (bit_at e p) (bit_at-lt d p) (bit_at-lt e p)
    (subst (λ q. digit_at d q ≡ digit_at e q) w.2 there))

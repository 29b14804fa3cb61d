-- A word written in a part of it: `stored_digits`, and what it is at the words that flip, clear and set.
use Rattle.bit_addressing_memory.proofs.Common.{◌≡◌, ℕ, zero, suc, ◌-◌, ◌^◌, ◌<◌, ◌≤◌, ◌==◌, true, false, not}
use Rattle.bit_addressing_memory.proofs.Common.{Option, bit_and, bit_or, refl, ap, ◌∙◌, arith, indexed}
use Rattle.bit_addressing_memory.proofs.Common.{reading_in, part_mask, IsStored}
use Rattle.std.proofs.lemmas.Nat.Bits.{bit_at_and, bit_at_or, bit_at-lt, bit_at-zero, bit_at_ones}
use Rattle.std.specs.Int.{bit_at}
use Rattle.bit_addressing_order.proofs.DigitLemmas.{bit_at-complement}
use Rattle.bit_addressing_order.specs.BitOrder.{IsLawful}
use Rattle.bit_addressing_memory.proofs.PartialLemmas.{part_inside, part_outside}

-- the digit of `(word & !mask) | (value & mask)` where the mask has a 1, and where it has a 0
digit_stored : (b n v m f kept taken r p : ℕ) → m < 2 ^ b → f ≡ 2 ^ b - 1 - m → kept ≡ bit_and n f
    → taken ≡ bit_and v m → r ≡ bit_or kept taken → p < b
    → (bit_at m p ≡ 1 → bit_at r p ≡ bit_at v p) × (bit_at m p ≡ 0 → bit_at r p ≡ bit_at n p)
digit_stored b n v m f kept taken r p fits is_f is_kept is_taken is_r small =
    let flipped : bit_at f p ≡ 1 - bit_at m p = ap (λ k. bit_at k p) is_f ∙ bit_at-complement b m p fits small in
    let of_kept = ap (λ k. bit_at k p) is_kept ∙ bit_at_and n f p in
    let of_taken = ap (λ k. bit_at k p) is_taken ∙ bit_at_and v m p in
    let of_r = ap (λ k. bit_at k p) is_r ∙ bit_at_or kept taken p in (
      λ one. omega (arith, flipped, of_kept, of_taken, of_r, bit_at-lt n p, bit_at-lt v p),
      λ none. omega (arith, flipped, of_kept, of_taken, of_r, bit_at-lt n p, bit_at-lt v p),
    )

-- `(word & !mask) | (value & mask)` is the word with the digits of the value in the part
pub stored_digits : {R : Type 0} (b : ℕ) (number : R → ℕ) (at select : ℕ → ℕ) (mask : Option ℕ → Option ℕ → ℕ)
    (word value result : R) (m from upto : ℕ) → IsLawful b at select mask
    → from < b → from ≤ upto → upto ≤ b → m < 2 ^ b → m ≡ part_mask mask from upto
    → number result ≡ bit_or (bit_and (number word) (2 ^ b - 1 - m)) (bit_and (number value) m)
    → IsStored (reading_in b number at) word result from upto (indexed number at value)
stored_digits b number at select mask word value result m from upto law index order within fits is_m is =
    let digit = λ (i : ℕ) (small : i < b).
    digit_stored b (number word) (number value) m (2 ^ b - 1 - m) (bit_and (number word) (2 ^ b - 1 - m))
    (bit_and (number value) m) (number result) (at i) fits refl refl refl is (law.in_range i small) in
    let out = λ (i : ℕ) (small : i < b) (outside : from ≤ i → i < upto → ⊥).
    let none : bit_at m (at i) ≡ 0 =
    ap (λ k. bit_at k (at i)) is_m ∙ part_outside b at select mask from upto i law index order within small outside in
    ap (λ d. d == 1) ((digit i small).1 none) in
    record {
      inside = λ i low high small.
          let one : bit_at m (at i) ≡ 1 =
          ap (λ k. bit_at k (at i)) is_m ∙ part_inside b at select mask from upto i law index order within low high in
          ap (λ d. d == 1) ((digit i small).0 one);
      below = λ i low small. out i small (λ above _. omega arith);
      above = λ i high small. out i small (λ _ below. omega arith);
    }

-- a word without digits has none at any index
pub digit_none : {R : Type 0} (number : R → ℕ) (at : ℕ → ℕ) (z : R) (i : ℕ) → number z ≡ 0
    → indexed number at z i ≡ false
digit_none number at z i e = ap (λ d. d == 1) (ap (λ n. bit_at n (at i)) e ∙ bit_at-zero (at i))

-- a word with all digits has each index's
pub digit_each : {R : Type 0} (b : ℕ) (number : R → ℕ) (at : ℕ → ℕ) (z : R) (i : ℕ) → number z ≡ 2 ^ b - 1
    → at i < b → indexed number at z i ≡ true
digit_each b number at z i e small = ap (λ d. d == 1) (ap (λ n. bit_at n (at i)) e ∙ bit_at_ones b (at i) small)

-- a word with its digits flipped has the other one at each index
pub digit_flipped : {R : Type 0} (b : ℕ) (number : R → ℕ) (at : ℕ → ℕ) (w z : R) (i : ℕ)
    → number z ≡ 2 ^ b - 1 - number w → number w < 2 ^ b → at i < b
    → indexed number at z i ≡ not (indexed number at w i)
digit_flipped b number at w z i e fits small =
    let d : ℕ = bit_at (number w) (at i) in
    let is : bit_at (number z) (at i) ≡ 1 - d =
    ap (λ n. bit_at n (at i)) e ∙ bit_at-complement b (number w) (at i) fits small in
    ap (λ k. k == 1) is ∙ either d (bit_at-lt (number w) (at i))
  where
    either : (d : ℕ) → d < 2 → (1 - d == 1) ≡ not (d == 1)
    either zero h = refl
    either (suc zero) h = refl
    either (suc (suc d)) h = absurd (omega arith)

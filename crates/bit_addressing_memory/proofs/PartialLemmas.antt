-- A part of a word under a mask: `masked_digits` (read), `one_word` (the one word of a list of one).
use Rattle.bit_addressing_memory.proofs.Common.{◌≡◌, ◌≢◌, ℕ, ◌<◌, ◌≤◌, ◌==◌, Option, Some, bit_and, ap, ◌∙◌, arith}
use Rattle.bit_addressing_memory.proofs.Common.{reading_in, part_mask, IsMasked}
use Rattle.std.proofs.lemmas.Nat.Bits.{bit_at_and, bit_at-lt}
use Rattle.std.specs.Int.{bit_at}
use Rattle.bit_addressing_order.proofs.CallerLemmas.{mask_has}
use Rattle.bit_addressing_order.specs.BitOrder.{IsLawful}

-- a digit of the mask of a part is 1 inside it
pub part_inside : (b : ℕ) (at select : ℕ → ℕ) (mask : Option ℕ → Option ℕ → ℕ) (from upto i : ℕ)
    → IsLawful b at select mask → from < b → from ≤ upto → upto ≤ b → from ≤ i → i < upto
    → bit_at (part_mask mask from upto) (at i) ≡ 1
part_inside b at select mask from upto i law index order within low high =
    (mask_has b at select mask (Some from) (Some upto) i law index order within (omega arith)).1 (low, high)

-- and 0 outside it
pub part_outside : (b : ℕ) (at select : ℕ → ℕ) (mask : Option ℕ → Option ℕ → ℕ) (from upto i : ℕ)
    → IsLawful b at select mask → from < b → from ≤ upto → upto ≤ b → i < b → (from ≤ i → i < upto → ⊥)
    → bit_at (part_mask mask from upto) (at i) ≡ 0
part_outside b at select mask from upto i law index order within small out =
    let n : ℕ = part_mask mask from upto in
    let has = (mask_has b at select mask (Some from) (Some upto) i law index order within small).0 in
    let not_one : bit_at n (at i) ≢ 1 = λ e. out (has e).0 (has e).1 in
    omega (arith, bit_at-lt n (at i))

-- `word & mask` is the word masked
pub masked_digits : {R : Type 0} (b : ℕ) (number : R → ℕ) (at select : ℕ → ℕ) (mask : Option ℕ → Option ℕ → ℕ)
    (word result : R) (from upto : ℕ) → IsLawful b at select mask → from < b → from ≤ upto → upto ≤ b
    → number result ≡ bit_and (number word) (part_mask mask from upto)
    → IsMasked (reading_in b number at) word result from upto
masked_digits b number at select mask word result from upto law index order within e =
    let m : ℕ = part_mask mask from upto in
    let split = λ (p : ℕ). ap (λ n. bit_at n p) e ∙ bit_at_and (number word) m p in
    let none = λ (i : ℕ) (small : i < b) (out : from ≤ i → i < upto → ⊥).
    let zero : bit_at m (at i) ≡ 0 = part_outside b at select mask from upto i law index order within small out in
    let is : bit_at (number result) (at i) ≡ 0 = omega (arith, split (at i)) in
    ap (λ d. d == 1) is in
    record {
      inside = λ i low high small.
          let one : bit_at m (at i) ≡ 1 = part_inside b at select mask from upto i law index order within low high in
          let is : bit_at (number result) (at i) ≡ bit_at (number word) (at i) =
          omega (arith, split (at i), bit_at-lt (number word) (at i)) in
          ap (λ d. d == 1) is;
      below = λ i low small. none i small (λ above _. omega arith);
      above = λ i high small. none i small (λ _ below. omega arith);
    }

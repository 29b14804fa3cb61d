-- What the users of words, orders and masks need.
--
-- One digit: `digit_at-with_digit_same`, `digit_at-with_digit_other`, `with_digit-lt`; how code makes it:
-- `or_is_with_digit`, `and_not_is_with_digit`; how code tests it: `test_is_digit_at`.
-- A word as a list: `length-bits_in_order`, `get_or-bits_in_order`, `bits_in_order-with_digit`.
-- What a list tells of its word: `index_of` (`at` is onto), `same_word`, `same_word_from_list`.
-- A mask: `mask_has`.
use Rattle.std.proofs.Common.{◌≡◌, ◌≢◌, ℕ, ◌-◌, ◌^◌, ◌<◌, ◌≤◌, ◌↔◌, Bool, true, false, ◌==◌, Option, length}
use Rattle.std.proofs.Common.{get_or, set, bit_and, bit_or, bit_xor, refl, sym, ◌∙◌, ap, subst, inl, inr, arith}
use Rattle.std.proofs.Common.{length-set, get_or-set_same, get_or-set_other}
use Rattle.std.proofs.Math.Pow.{pow-lt}
use Rattle.std.proofs.lemmas.Bool.{cases_eq, false≢true, eqb-true, eqb-false, eq-eqb, ne_eqb}
use Rattle.std.proofs.lemmas.List.FromFn.{length-map-range_with_len, get_or-map-range_with_len, fill_by_all}
use Rattle.std.proofs.lemmas.Nat.{or_lt, xor_lt}
use Rattle.std.proofs.lemmas.Nat.Bits.{bit_at-lt, bit_at_or, bit_at_xor, bit_at-pow_same, bit_at-pow_other}
use Rattle.std.proofs.lemmas.Nat.Bits.{same_from_bits, same_from_bits_below}
use Rattle.std.specs.Int.{bit_at}
use Rattle.bit_addressing_order.proofs.OntoLemmas.{onto}
use Rattle.bit_addressing_order.specs.Bits.{digit_at, with_digit, bits_in_order}
use Rattle.bit_addressing_order.proofs.DigitLemmas.{set_here, set_other, clear_here, clear_other, and_selector}
use Rattle.bit_addressing_order.specs.BitOrder.{lower, upper, IsIndexBound, IsLawful}

-- ---- one digit

-- a digit that is set and then flipped is 0
flipped_here : (n p : ℕ) → bit_at (bit_xor (bit_or n (2 ^ p)) (2 ^ p)) p ≡ 0
flipped_here n p = omega (
  arith,
  bit_at_xor (bit_or n (2 ^ p)) (2 ^ p) p,
  bit_at_or n (2 ^ p) p,
  bit_at-pow_same p,
  bit_at-lt n p,
)

flipped_other : (n p i : ℕ) → i ≢ p → bit_at (bit_xor (bit_or n (2 ^ p)) (2 ^ p)) i ≡ bit_at n i
flipped_other n p i ne = omega (
  arith,
  bit_at_xor (bit_or n (2 ^ p)) (2 ^ p) i,
  bit_at_or n (2 ^ p) i,
  bit_at-pow_other p i ne,
  bit_at-lt n i,
)

pub digit_at-with_digit_same : (n p : ℕ) (b : Bool) → digit_at (with_digit n p b) p ≡ b
digit_at-with_digit_same n p true = ap (λ d. d == 1) (set_here n (2 ^ p) p (bit_or n (2 ^ p)) refl refl)
digit_at-with_digit_same n p false = ap (λ d. d == 1) (flipped_here n p)

pub digit_at-with_digit_other : (n p : ℕ) (b : Bool) (i : ℕ) → i ≢ p → digit_at (with_digit n p b) i ≡ digit_at n i
digit_at-with_digit_other n p true i ne = ap (λ d. d == 1) (set_other n (2 ^ p) p (bit_or n (2 ^ p)) i refl refl ne)
digit_at-with_digit_other n p false i ne = ap (λ d. d == 1) (flipped_other n p i ne)

-- a word stays a word
pub with_digit-lt : (bits n p : ℕ) (b : Bool) → n < 2 ^ bits → p < bits → with_digit n p b < 2 ^ bits
with_digit-lt bits n p true fits lt = or_lt bits n (2 ^ p) fits (pow-lt lt)
with_digit-lt bits n p false fits lt =
    xor_lt bits (bit_or n (2 ^ p)) (2 ^ p) (or_lt bits n (2 ^ p) fits (pow-lt lt)) (pow-lt lt)

-- `word | selector` sets the digit
pub or_is_with_digit : (n s p r : ℕ) → r ≡ bit_or n s → s ≡ 2 ^ p → r ≡ with_digit n p true
or_is_with_digit n s p r e1 e2 = e1 ∙ ap (bit_or n) e2

-- `word & !selector` clears it
pub and_not_is_with_digit : (bits n s f p r : ℕ) → r ≡ bit_and n f → f ≡ 2 ^ bits - 1 - s → s ≡ 2 ^ p → p < bits
    → n < 2 ^ bits → r ≡ with_digit n p false
and_not_is_with_digit bits n s f p r e1 e2 e3 lt fits = same_from_bits r _ (λ i. elim (cases_eq i p) [
  | inl same ↦ rw same (clear_here bits n s f p r e1 e2 e3 lt ∙ sym (flipped_here n p))
  | inr other ↦ clear_other bits n s f p r i e1 e2 e3 lt fits other ∙ sym (flipped_other n p i other)
])

-- `word & selector` is 0 exactly where the digit is
pub test_is_digit_at : (n s p r : ℕ) → r ≡ bit_and n s → s ≡ 2 ^ p → (r ≡ 0) ↔ (digit_at n p ≡ false)
test_is_digit_at n s p r e1 e2 =
    let zero = and_selector n p s e2 in (
      λ none. ap (λ d. d == 1) (zero.0 (sym e1 ∙ none)),
      λ off. e1 ∙ zero.1 (omega (arith, bit_at-lt n p, not_one (bit_at n p) off)),
    )
  where
    not_one : (d : ℕ) → (d == 1) ≡ false → d ≢ 1
    not_one d off same = false≢true (sym off ∙ ap (λ k. k == 1) same)

-- two digits that are 1 together are equal
same_digit : (a b : ℕ) → a < 2 → b < 2 → (a == 1) ≡ (b == 1) → a ≡ b
same_digit a b small_a small_b same = elim (cases_eq a 1) [
  | inl one ↦ one ∙ sym (eqb-true b 1 (sym same ∙ eq-eqb a 1 one))
  | inr other ↦
      let also : b ≢ 1 = eqb-false b 1 (sym same ∙ ne_eqb a 1 other) in
      omega arith
]

-- ---- a word as a list

-- entry i is the digit at the position of index i
pub get_or-bits_in_order : (at : ℕ → ℕ) (bits n i : ℕ) (d : Bool) → i < bits
    → get_or (bits_in_order at bits n) i d ≡ digit_at n (at i)
get_or-bits_in_order at bits n i d lt =
    get_or-map-range_with_len (λ k. digit_at n (at k)) 0 bits i i d lt (omega arith)

-- the list has as many entries as the word has bits
pub length-bits_in_order : (at : ℕ → ℕ) (bits n : ℕ) → length (bits_in_order at bits n) ≡ bits
length-bits_in_order at bits n = length-map-range_with_len (λ k. digit_at n (at k)) 0 bits

-- one digit made b is one entry made b
pub bits_in_order-with_digit : (at : ℕ → ℕ) (bits n i : ℕ) (b : Bool) → i < bits
    → ((j k : ℕ) → j < bits → k < bits → at j ≡ at k → j ≡ k)
    → bits_in_order at bits (with_digit n (at i) b) ≡ set (bits_in_order at bits n) i b
bits_in_order-with_digit at bits n i b lt apart =
    let new = with_digit n (at i) b in
    let old = bits_in_order at bits n in
    sym (fill_by_all (λ k. digit_at new (at k)) (set old i b) bits false
    (simp length-set (length-bits_in_order at bits n))
    (λ k small. elim (cases_eq k i) [
      | inl same ↦
          let within : i < length old = omega (arith, length-bits_in_order at bits n) in
          rw same (get_or-set_same old i b false within ∙ sym (digit_at-with_digit_same n (at i) b))
      | inr other ↦
          get_or-set_other old i k b false other
          ∙ get_or-bits_in_order at bits n k false small
          ∙ sym (digit_at-with_digit_other n (at i) b (at k) (λ e. other (apart k i small lt e)))
    ]))

-- ---- what a list tells of its word

-- each position is that of an index
pub index_of : (bits : ℕ) (at select : ℕ → ℕ) (mask : Option ℕ → Option ℕ → ℕ) (p : ℕ)
    → IsLawful bits at select mask → p < bits → (i : ℕ) × (i < bits) × (at i ≡ p)
index_of bits at select mask p law small = onto bits at law.in_range law.one_to_one p small

-- two words with the same digits at each index's position are equal
pub same_word : (bits : ℕ) (at select : ℕ → ℕ) (mask : Option ℕ → Option ℕ → ℕ) (n m : ℕ)
    → IsLawful bits at select mask → n < 2 ^ bits → m < 2 ^ bits
    → ((i : ℕ) → i < bits → digit_at n (at i) ≡ digit_at m (at i)) → n ≡ m
same_word bits at select mask n m law fits_n fits_m same = same_from_bits_below bits n m fits_n fits_m (λ p small.
    let w = index_of bits at select mask p law small in
    same_digit (bit_at n p) (bit_at m p) (bit_at-lt n p) (bit_at-lt m p)
    (subst (λ q. digit_at n q ≡ digit_at m q) w.2 (same w.0 w.1)))

-- and so are two words with the same list
pub same_word_from_list : (bits : ℕ) (at select : ℕ → ℕ) (mask : Option ℕ → Option ℕ → ℕ) (n m : ℕ)
    → IsLawful bits at select mask → n < 2 ^ bits → m < 2 ^ bits
    → bits_in_order at bits n ≡ bits_in_order at bits m → n ≡ m
same_word_from_list bits at select mask n m law fits_n fits_m same =
    same_word bits at select mask n m law fits_n fits_m (λ i small.
    sym (get_or-bits_in_order at bits n i false small) ∙ ap (λ xs. get_or xs i false) same
    ∙ get_or-bits_in_order at bits m i false small)

-- ---- masks

-- a mask has the digit of an index exactly where the index lies between its bounds
pub mask_has : (bits : ℕ) (at select : ℕ → ℕ) (mask : Option ℕ → Option ℕ → ℕ) (from upto : Option ℕ) (i : ℕ)
    → IsLawful bits at select mask
    → IsIndexBound bits from → lower from ≤ upper bits upto → upper bits upto ≤ bits → i < bits
    → (bit_at (mask from upto) (at i) ≡ 1) ↔ ((lower from ≤ i) × (i < upper bits upto))
mask_has bits at select mask from upto i law bound order within small =
    let has = law.masks from upto bound order within (at i) in (
      λ one.
          let w = has.0 one in
          let same : w.0 ≡ i = law.one_to_one w.0 i (omega arith) small w.3 in
          (omega arith, omega arith),
      λ between. has.1 (i, between.0, between.1, refl),
    )

pub ruleset made_digits = (or_is_with_digit, and_not_is_with_digit)

pub ruleset entries = (get_or-bits_in_order, bits_in_order-with_digit)

-- The ones of a number are the trues of its list in any lawful order: `ones_in_order`. True bits of lists: `trues`,
-- `trues-append`, `trues_none`, `trues-falses`.
use Rattle.bit_addressing_memory.proofs.Common.{◌≡◌, ◌≢◌, ℕ, ◌+◌, ◌-◌, ◌*◌, ◌/◌}
use Rattle.bit_addressing_memory.proofs.Common.{◌%◌, ◌^◌, ◌<◌, ◌≤◌, ◌==◌, zero, suc}
use Rattle.bit_addressing_memory.proofs.Common.{Bool, true, false, cond, not, List, [], ◌∷◌, ◌++◌, Option, length}
use Rattle.bit_addressing_memory.proofs.Common.{get_or, set, count_by, refl, sym, ap, ◌∙◌, inl, inr, arith, cases_lt}
use Rattle.bit_addressing_memory.proofs.Common.{cases_eq}
use Rattle.std.specs.Int.{bit_at}
use Rattle.std.specs.Int.RustNames.{count_ones}
use Rattle.std.proofs.lemmas.Nat.{ones_cat, div-add-mod', pow_pos}
use Rattle.std.proofs.lemmas.Nat.Bits.{bit_at-lt, bit_at-zero, bit_at_lowest, bit_at_cat_low, bit_at_cat_high}
use Rattle.std.proofs.lemmas.Nat.Bits.{bit_at-suc, same_from_bits}
use Rattle.std.proofs.lemmas.List.Sums.{sum_by-set, sum_by-append, sum_by-cons}
use Rattle.bit_addressing_memory.specs.Bits.{digit_at, with_digit, bits_in_order}
use Rattle.bit_addressing_memory.specs.BitOrder.{IsLawful}
use Rattle.bit_addressing_memory.proofs.OrderCallerLemmas.{with_digit-lt, same_word, get_or-bits_in_order}
use Rattle.bit_addressing_memory.proofs.OrderCallerLemmas.{length-bits_in_order, bits_in_order-with_digit}
use Rattle.bit_addressing_memory.proofs.OrderCallerLemmas.{digit_at-with_digit_same, digit_at-with_digit_other}

-- ---- lists

-- how many are true
abbrev pub trues : List Bool → ℕ
trues xs = count_by (λ b. b) xs

-- those of two lists, one after the other
pub trues-append : (xs ys : List Bool) → trues (xs ++ ys) ≡ trues xs + trues ys
trues-append xs ys = sum_by-append (λ b. cond b 1 0) xs ys

-- no element true, none counted
pub trues_none : (xs : List Bool) → ((k : ℕ) → k < length xs → get_or xs k false ≡ false) → trues xs ≡ 0
trues_none [] h = refl
trues_none (true ∷ xs) h = let wrong : true ≡ false = h 0 (omega arith) in cc
trues_none (false ∷ xs) h =
    let first : trues (false ∷ xs) ≡ 0 + trues xs = sum_by-cons (λ b. cond b 1 0) false xs in
    let rest : trues xs ≡ 0 = trues_none xs (λ k low. h (suc k) (omega arith)) in
    omega arith

-- each element is true or false
pub trues-falses : (xs : List Bool) → trues xs + count_by (λ b. not b) xs ≡ length xs
trues-falses [] = refl
trues-falses (x ∷ xs) =
    let ones : trues (x ∷ xs) ≡ cond x 1 0 + trues xs = sum_by-cons (λ b. cond b 1 0) x xs in
    let zeros : count_by (λ b. not b) (x ∷ xs) ≡ cond (not x) 1 0 + count_by (λ b. not b) xs =
    sum_by-cons (λ b. cond (not b) 1 0) x xs in
    let rest : trues xs + count_by (λ b. not b) xs ≡ length xs = trues-falses xs in
    let size : length (x ∷ xs) ≡ suc (length xs) = refl in
    omega (arith, one x)
  where
    one : (b : Bool) → cond b 1 0 + cond (not b) 1 0 ≡ 1
    one true = refl
    one false = refl

-- ---- a number with one digit cleared

ones_digit : (d : ℕ) → d < 2 → count_ones d ≡ d
unfolding count_ones
ones_digit zero h = refl
ones_digit (suc zero) h = refl
ones_digit (suc (suc d)) h = absurd (omega arith)

-- two digits that are 1 together are equal
digit_same : (a c : ℕ) → a < 2 → c < 2 → (a == 1) ≡ (c == 1) → a ≡ c
digit_same zero zero h k e = refl
digit_same zero (suc zero) h k e = cc
digit_same (suc zero) zero h k e = cc
digit_same (suc zero) (suc zero) h k e = refl
digit_same (suc (suc a)) c h k e = absurd (omega arith)
digit_same a (suc (suc c)) h k e = absurd (omega arith)

-- the number with its digit at p cleared, as the digits above it and those below it
abbrev cleared : ℕ → ℕ → ℕ
cleared n p = (n / 2 ^ p / 2 * 2 ^ 1 + 0) * 2 ^ p + n % 2 ^ p

below : (n p : ℕ) → n % 2 ^ p < 2 ^ p
below n p = omega (arith, pow_pos p)

-- it has one 1 less, where that digit was 1
ones_cleared : (n p : ℕ) → count_ones n ≡ bit_at n p + count_ones (cleared n p)
ones_cleared n p =
    let q : ℕ = n / 2 ^ p in
    let r : ℕ = n % 2 ^ p in
    let whole : q * 2 ^ p + r ≡ n = div-add-mod' n (2 ^ p) in
    let half : q / 2 * 2 + q % 2 ≡ q = div-add-mod' q 2 in
    let one : 2 ^ 1 ≡ 2 = refl in
    let split : count_ones (q * 2 ^ p + r) ≡ count_ones q + count_ones r = ones_cat p q r (below n p) in
    let upper : count_ones (q / 2 * 2 ^ 1 + q % 2) ≡ count_ones (q / 2) + count_ones (q % 2) =
    ones_cat 1 (q / 2) (q % 2) (omega arith) in
    let digit : count_ones (q % 2) ≡ q % 2 = ones_digit (q % 2) (omega arith) in
    let split_less : count_ones ((q / 2 * 2 ^ 1 + 0) * 2 ^ p + r) ≡ count_ones (q / 2 * 2 ^ 1 + 0) + count_ones r =
    ones_cat p (q / 2 * 2 ^ 1 + 0) r (below n p) in
    let upper_less : count_ones (q / 2 * 2 ^ 1 + 0) ≡ count_ones (q / 2) + count_ones 0 =
    ones_cat 1 (q / 2) 0 (omega arith) in
    let none : count_ones 0 ≡ 0 = ones_digit 0 (omega arith) in
    let n_is : count_ones n ≡ count_ones (q * 2 ^ p + r) = ap count_ones (sym whole) in
    let q_is : count_ones q ≡ count_ones (q / 2 * 2 ^ 1 + q % 2) = ap count_ones (sym half) in
    omega arith

cleared_here : (n p : ℕ) → bit_at (cleared n p) p ≡ 0
cleared_here n p =
    let x : ℕ = n / 2 ^ p / 2 * 2 ^ 1 + 0 in
    let none : p - p ≡ 0 = omega arith in
    let even : x % 2 ≡ 0 = omega arith in
    bit_at_cat_high x p (n % 2 ^ p) p (below n p) (omega arith) ∙ ap (bit_at x) none ∙ bit_at_lowest x ∙ even

cleared_other : (n p i : ℕ) → i ≢ p → bit_at (cleared n p) i ≡ bit_at n i
cleared_other n p i ne =
    let q : ℕ = n / 2 ^ p in
    let r : ℕ = n % 2 ^ p in
    let x : ℕ = q / 2 * 2 ^ 1 + 0 in
    let whole : q * 2 ^ p + r ≡ n = div-add-mod' n (2 ^ p) in
    elim (cases_lt i p) [
      | inl low ↦ bit_at_cat_low x p r i low ∙ sym (bit_at_cat_low q p r i low) ∙ ap (λ k. bit_at k i) whole
      | inr high ↦
          let j : ℕ = i - p - 1 in
          let next : i - p ≡ suc j = omega arith in
          let half : x / 2 ≡ q / 2 = omega arith in
          bit_at_cat_high x p r i (below n p) high
          ∙ ap (bit_at x) next
          ∙ bit_at-suc x j
          ∙ ap (λ k. bit_at k j) half
          ∙ sym (bit_at-suc q j)
          ∙ ap (bit_at q) (sym next)
          ∙ sym (bit_at_cat_high q p r i (below n p) high)
          ∙ ap (λ k. bit_at k i) whole
    ]

cleared_is : (n p : ℕ) → cleared n p ≡ with_digit n p false
cleared_is n p =
    let m : ℕ = with_digit n p false in
    same_from_bits (cleared n p) m (λ i. elim (cases_eq i p) [
      | inl same ↦
          let here = digit_same (bit_at m p) 0 (bit_at-lt m p) (omega arith) (digit_at-with_digit_same n p false) in
          rw same (cleared_here n p ∙ sym here)
      | inr other ↦
          let kept = digit_at-with_digit_other n p false i other in
          cleared_other n p i other ∙ sym (digit_same (bit_at m i) (bit_at n i) (bit_at-lt m i) (bit_at-lt n i) kept)
    ])

-- ---- a number in an order

cond_digit : (d : ℕ) → d < 2 → cond (d == 1) 1 0 ≡ d
cond_digit zero h = refl
cond_digit (suc zero) h = refl
cond_digit (suc (suc d)) h = absurd (omega arith)

-- the indices from m on have no digit that is 1
ones_upto : (b : ℕ) (at select : ℕ → ℕ) (mask : Option ℕ → Option ℕ → ℕ) → IsLawful b at select mask
    → (m n : ℕ) → m ≤ b → n < 2 ^ b → ((i : ℕ) → m ≤ i → i < b → digit_at n (at i) ≡ false)
    → count_ones n ≡ trues (bits_in_order at b n)
ones_upto b at select mask law zero n low fits none =
    let no_ones : n ≡ 0 = same_word b at select mask n 0 law fits (omega (arith, pow_pos b))
    (λ i small. none i (omega arith) small ∙ sym (ap (λ d. d == 1) (bit_at-zero (at i)))) in
    let left : count_ones n ≡ 0 = ap count_ones no_ones ∙ ones_digit 0 (omega arith) in
    let right : trues (bits_in_order at b n) ≡ 0 = trues_none (bits_in_order at b n) (λ k small.
    let in_word : k < b = omega (arith, length-bits_in_order at b n) in
    get_or-bits_in_order at b n k false in_word ∙ none k (omega arith) in_word) in
    left ∙ sym right
ones_upto b at select mask law (suc m) n low fits none =
    let p : ℕ = at m in
    let c : ℕ = with_digit n p false in
    let xs : List Bool = bits_in_order at b n in
    let lower : m < b = omega arith in
    let before : count_ones c ≡ trues (bits_in_order at b c) = ones_upto b at select mask law m c (omega arith)
    (with_digit-lt b n p false fits (law.in_range m lower))
    (λ i least small. elim (cases_eq i m) [
      | inl same ↦ ap (λ k. digit_at c (at k)) same ∙ digit_at-with_digit_same n p false
      | inr other ↦
          digit_at-with_digit_other n p false (at i) (λ e. other (law.one_to_one i m small lower e))
          ∙ none i (omega arith) small
    ]) in
    let listed : trues (bits_in_order at b c) ≡ trues (set xs m false) =
    ap trues (bits_in_order-with_digit at b n m false lower law.one_to_one) in
    let counted : Bool → ℕ = λ x. cond x 1 0 in
    let changed : trues (set xs m false) + cond (get_or xs m false) 1 0 ≡ trues xs + 0 =
    sum_by-set counted xs m false false (omega (arith, length-bits_in_order at b n)) in
    let here : cond (get_or xs m false) 1 0 ≡ bit_at n p =
    ap counted (get_or-bits_in_order at b n m false lower) ∙ cond_digit (bit_at n p) (bit_at-lt n p) in
    let less : count_ones n ≡ bit_at n p + count_ones (cleared n p) = ones_cleared n p in
    let same : count_ones (cleared n p) ≡ count_ones c = ap count_ones (cleared_is n p) in
    omega arith

-- a word has as many ones as its list in a lawful order has trues
pub ones_in_order : (b : ℕ) (at select : ℕ → ℕ) (mask : Option ℕ → Option ℕ → ℕ) (n : ℕ) → IsLawful b at select mask
    → n < 2 ^ b → count_ones n ≡ trues (bits_in_order at b n)
ones_in_order b at select mask n law fits =
    ones_upto b at select mask law b n (omega arith) fits (λ i most small. absurd (omega arith))

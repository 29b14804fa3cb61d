-- One digit of a number: what shifts, `|` and `&` with a selector do to it.
use Rattle.std.proofs.Common.{pow-suc, ◌≡◌, ◌≢◌, ℕ, zero, suc, ◌-◌, ◌*◌, ◌/◌, ◌%◌, ◌^◌, ◌<◌, ◌≤◌}
use Rattle.std.proofs.Common.{◌↔◌, bit_and, bit_or, sym, ◌∙◌, ap, inl, inr, arith}
use Rattle.std.proofs.Math.Nat.{mod-eq_of_lt, mul_comm, mul-sub}
use Rattle.std.proofs.Math.Pow.{pow-lt, pow_pos, pow_mono}
use Rattle.std.proofs.lemmas.Nat.{pow-add}
use Rattle.std.proofs.lemmas.Bool.{cases_lt}
use Rattle.std.specs.Int.{bit_at}
use Rattle.std.proofs.lemmas.Nat.Bits.{and_pow, ones_shr, bit_at-pow_same, bit_at-pow_other}
use Rattle.std.proofs.lemmas.Nat.Bits.{bit_at-lt, bit_at_or, bit_at_and, bit_at_above}
use Rattle.std.proofs.lemmas.Nat.Bits.{bit_at_lowest, bit_at-suc}
use Rattle.bit_addressing_order.specs.BitOrder.{IsSelector}

-- `1 << k` is two to the power k
pub one_shl : (bits k n : ℕ) → n ≡ 1 → k < bits → n * 2 ^ k % 2 ^ bits ≡ 2 ^ k
one_shl bits k n e lt =
    let one : n * 2 ^ k ≡ 2 ^ k = rw e (omega arith) in
    rw one (mod-eq_of_lt (pow-lt lt))

-- two to a power below `bits` is a selector
pub IsSelector_pow : (bits k n : ℕ) → k < bits → n ≡ 2 ^ k → IsSelector bits n
IsSelector_pow bits k n lt e = (k, lt, e)

-- the digit at p is 0 exactly where `n & (1 << p)` is
pub and_selector : (n p s : ℕ) → s ≡ 2 ^ p → (bit_and n s ≡ 0) ↔ (bit_at n p ≡ 0)
and_selector n p s e =
    let both : bit_and n s ≡ bit_at n p * 2 ^ p = rw e (and_pow n p) in (
      λ h. elim (cases_lt (bit_at n p) 1) [
        | inl small ↦ omega arith
        | inr large ↦ absurd (
            let one : bit_at n p ≡ 1 = omega (arith, bit_at-lt n p) in
            let none : 2 ^ p ≡ 0 = omega (arith, rw one at both) in
            omega (arith, pow_pos p)
            )
      ],
      λ h. rw (both, h) (omega arith),
    )

-- the same, of a word that is known to be that conjunction
pub test_of_one : (n p s r : ℕ) → r ≡ bit_and n s → s ≡ 2 ^ p → (r ≡ 0) ↔ (bit_at n p ≡ 0)
test_of_one n p s r e1 e2 = rw e1 (and_selector n p s e2)

-- `MAX >> (bits - (upto - from)) << from` has the ones from `from` up to before `upto`
ones_between : (bits from upto : ℕ) → from < upto → upto ≤ bits
    → (2 ^ bits - 1) / 2 ^ (bits - (upto - from)) * 2 ^ from % 2 ^ bits ≡ 2 ^ upto - 2 ^ from
ones_between bits from upto lt le =
    let width : bits - (bits - (upto - from)) ≡ upto - from = omega arith in
    let low : (2 ^ bits - 1) / 2 ^ (bits - (upto - from)) ≡ 2 ^ (upto - from) - 1 =
    ones_shr bits (bits - (upto - from)) (omega arith) ∙ ap (λ k. 2 ^ k - 1) width in
    let whole : 2 ^ (upto - from) * 2 ^ from ≡ 2 ^ upto =
    sym (pow-add 2 (upto - from) from) ∙ ap (λ k. 2 ^ k) (omega arith) in
    let moved : (2 ^ (upto - from) - 1) * 2 ^ from ≡ 2 ^ upto - 2 ^ from =
    mul_comm (2 ^ (upto - from) - 1) (2 ^ from) ∙ mul-sub (2 ^ from) (2 ^ (upto - from)) 1 ∙ omega (arith, whole) in
    let small : 2 ^ upto - 2 ^ from < 2 ^ bits =
    omega (arith, pow_pos from, pow_mono {i = upto} {j = bits} le, pow_mono {i = from} {j = upto} (omega arith)) in
    rw (low, moved) (mod-eq_of_lt small)

-- the same, of words that are known to be those shifts
pub ones_between_word : (bits from upto all shifted result : ℕ)
    → result ≡ shifted * 2 ^ from % 2 ^ bits
    → shifted ≡ all / 2 ^ (bits - (upto - from))
    → all ≡ 2 ^ bits - 1
    → from < upto → upto ≤ bits
    → result ≡ 2 ^ upto - 2 ^ from
ones_between_word bits from upto all shifted result e1 e2 e3 lt le =
    rw (e1, e2, e3) (ones_between bits from upto lt le)

-- `MAX - n` at k bits flips each of them
pub bit_at-complement : (k n i : ℕ) → n < 2 ^ k → i < k → bit_at (2 ^ k - 1 - n) i ≡ 1 - bit_at n i
bit_at-complement zero n i fits within = absurd (omega arith)
bit_at-complement (suc k) n zero fits within =
    omega (arith, bit_at_lowest (2 ^ suc k - 1 - n), bit_at_lowest n, pow-suc 2 k)
bit_at-complement (suc k) n (suc i) fits within =
    let half : (2 ^ suc k - 1 - n) / 2 ≡ 2 ^ k - 1 - n / 2 = omega (arith, pow-suc 2 k) in
    bit_at-suc _ i ∙ ap (λ x. bit_at x i) half
    ∙ bit_at-complement k (n / 2) i (omega (arith, pow-suc 2 k)) (omega arith)
    ∙ ap (λ d. 1 - d) (sym (bit_at-suc n i))

-- `n | selector` has the selector's digit
pub set_here : (n s p r : ℕ) → r ≡ bit_or n s → s ≡ 2 ^ p → bit_at r p ≡ 1
set_here n s p r e1 e2 = rw (e1, e2) (omega (arith, bit_at_or n (2 ^ p) p, bit_at-pow_same p, bit_at-lt n p))

-- `n | selector` leaves the other digits
pub set_other : (n s p r i : ℕ) → r ≡ bit_or n s → s ≡ 2 ^ p → i ≢ p → bit_at r i ≡ bit_at n i
set_other n s p r i e1 e2 ne = rw (e1, e2) (omega (arith, bit_at_or n (2 ^ p) i, bit_at-pow_other p i ne))

-- `n & !selector` lacks the selector's digit
pub clear_here : (bits n s f p r : ℕ) → r ≡ bit_and n f → f ≡ 2 ^ bits - 1 - s → s ≡ 2 ^ p → p < bits
    → bit_at r p ≡ 0
clear_here bits n s f p r e1 e2 e3 lt =
    rw (e1, e2, e3) (omega (
      arith,
      bit_at_and n (2 ^ bits - 1 - 2 ^ p) p,
      bit_at-complement bits (2 ^ p) p (pow-lt lt) lt,
      bit_at-pow_same p,
    ))

-- `n & !selector` leaves the other digits
pub clear_other : (bits n s f p r i : ℕ) → r ≡ bit_and n f → f ≡ 2 ^ bits - 1 - s → s ≡ 2 ^ p → p < bits
    → n < 2 ^ bits → i ≢ p → bit_at r i ≡ bit_at n i
clear_other bits n s f p r i e1 e2 e3 lt fits ne =
    rw (e1, e2, e3) (elim (cases_lt i bits) [
      | inl low ↦ omega (
        arith,
        bit_at_and n (2 ^ bits - 1 - 2 ^ p) i,
        bit_at-complement bits (2 ^ p) i (pow-lt lt) low,
        bit_at-pow_other p i ne,
        bit_at-lt n i,
      )
      | inr high ↦ omega (arith, bit_at_and n (2 ^ bits - 1 - 2 ^ p) i, bit_at_above n bits i fits high)
    ])

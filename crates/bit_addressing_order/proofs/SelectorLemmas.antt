-- A word has one bit set exactly where it is a selector.
use lib.Count.{ones, ones_step}
use Rattle.std.proofs.Common.{◌≡◌, ℕ, zero, suc, ◌/◌, ◌%◌, ◌^◌, ◌<◌, ◌≤◌, ◌↔◌, ◌==◌, Bool, true, count_ones, pow-suc}
use Rattle.std.proofs.Common.{refl, sym, ◌∙◌, ap, inl, inr, arith}
use Rattle.std.proofs.Math.Pow.{pow_mono}
use Rattle.std.proofs.lemmas.Bool.{cases_lt, cases_eq, eqb-true, eq-eqb}
use Rattle.std.proofs.lemmas.Nat.{zero_from_ones}
use Rattle.bit_addressing_order.specs.BitOrder.{IsSelector}

-- two to a power has one 1
ones-pow : (p : ℕ) → count_ones (2 ^ p) ≡ 1
unfolding ones
ones-pow zero = refl
ones-pow (suc p) =
    let half : 2 ^ suc p / 2 ≡ 2 ^ p = omega (arith, pow-suc 2 p) in
    omega (arith, ones_step (2 ^ suc p), ap count_ones half, ones-pow p, pow-suc 2 p)

-- a number that has one 1 is two to a power
pow_from_ones : (most n : ℕ) → n ≤ most → count_ones n ≡ 1 → (p : ℕ) × (n ≡ 2 ^ p)
unfolding ones
pow_from_ones zero n le one =
    let none : n ≡ 0 = omega arith in
    let ones : count_ones 0 ≡ 0 = refl in
    absurd (omega (arith, ap count_ones none))
pow_from_ones (suc most) n le one = elim (cases_eq (n % 2) 0) [
  | inl even ↦
      let half = pow_from_ones most (n / 2) (omega arith) (omega (arith, ones_step n)) in
      (suc half.0, omega (arith, half.1, pow-suc 2 half.0))
  | inr odd ↦
      let rest : n / 2 ≡ 0 = zero_from_ones (n / 2) (omega (arith, ones_step n)) in
      (0, omega arith)
]

-- the test whether one bit of a word is set tells a selector
pub one_bit_is_selector : (bits n : ℕ) (is_one : Bool) → is_one ≡ (count_ones n == 1) → n < 2 ^ bits
    → (is_one ≡ true) ↔ IsSelector bits n
one_bit_is_selector bits n is_one e fits = (
  λ one.
      let found = pow_from_ones n n (omega arith) (eqb-true (count_ones n) 1 (sym e ∙ one)) in
      let within : found.0 < bits = elim (cases_lt found.0 bits) [
        | inl low ↦ low
        | inr high ↦ absurd (omega (arith, found.1, pow_mono {i = bits} {j = found.0} high))
      ] in
      (found.0, within, found.1),
  λ selector. e ∙ eq-eqb (count_ones n) 1 (ap count_ones selector.2 ∙ ones-pow selector.0),
)

-- What masks and selectors do to the digits of a word.
use Rattle.std.proofs.Common.{◌≡◌, ◌≢◌, ℕ, ◌^◌, ◌==◌, false, not, bit_and, bit_xor, sym, ap, ◌∙◌, inl, inr, arith}
use Rattle.std.proofs.lemmas.Bool.{cases_eq}
use Rattle.std.proofs.lemmas.Nat.Bits.{bit_at-lt, bit_at_and, bit_at_xor, bit_at-pow_same, bit_at-pow_other}
use Rattle.std.proofs.lemmas.Nat.Bits.{bit_at-zero, same_from_bits}
use Rattle.std.specs.Int.{bit_at}
use Rattle.bit_addressing_order.specs.Bits.{digit_at}

-- `word & mask` keeps a digit of the mask
pub kept : (word mask masked result p : ℕ) → result ≡ bit_and word mask → mask ≡ masked → bit_at masked p ≡ 1
    → digit_at result p ≡ digit_at word p
kept word mask masked result p e made one =
    ap (λ d. d == 1) (rw (e, made) (omega (arith, bit_at_and word masked p, bit_at-lt word p)))

-- and clears each other
pub cleared : (word mask masked result p : ℕ) → result ≡ bit_and word mask → mask ≡ masked → bit_at masked p ≢ 1
    → digit_at result p ≡ false
cleared word mask masked result p e made other =
    let zero : bit_at result p ≡ 0 =
    rw (e, made) (omega (arith, bit_at_and word masked p, bit_at-lt masked p)) in
    ap (λ d. d == 1) zero

-- what lies in masks with no digit in common has none
pub apart : (word mask other a b : ℕ) → a ≡ bit_and word mask → b ≡ bit_and word other → bit_and mask other ≡ 0
    → bit_and a b ≡ 0
apart word mask other a b e1 e2 none = rw (e1, e2) (same_from_bits _ 0 (λ p. omega (
  arith,
  bit_at_and (bit_and word mask) (bit_and word other) p,
  bit_at_and word mask p,
  bit_at_and word other p,
  bit_at_and mask other p,
  ap (λ n. bit_at n p) none,
  bit_at-zero p,
)))

-- `word ^ selector` flips the selector's digit
pub flipped_here : (word selector result p : ℕ) → result ≡ bit_xor word selector → selector ≡ 2 ^ p
    → digit_at result p ≡ not (digit_at word p)
flipped_here word selector result p e one = rw (e, one) (elim (cases_eq (bit_at word p) 1) [
  | inl set ↦
      let off : bit_at (bit_xor word (2 ^ p)) p ≡ 0 =
      omega (arith, bit_at_xor word (2 ^ p) p, bit_at-pow_same p) in
      ap (λ d. d == 1) off ∙ ap (λ d. not (d == 1)) (sym set)
  | inr other ↦
      let clear : bit_at word p ≡ 0 = omega (arith, bit_at-lt word p) in
      let on : bit_at (bit_xor word (2 ^ p)) p ≡ 1 =
      omega (arith, bit_at_xor word (2 ^ p) p, bit_at-pow_same p) in
      ap (λ d. d == 1) on ∙ ap (λ d. not (d == 1)) (sym clear)
])

-- and leaves the others
pub flipped_other : (word selector result p i : ℕ) → result ≡ bit_xor word selector → selector ≡ 2 ^ p → i ≢ p
    → digit_at result i ≡ digit_at word i
flipped_other word selector result p i e one other = ap (λ d. d == 1) (rw (e, one) (omega (
  arith,
  bit_at_xor word (2 ^ p) i,
  bit_at-pow_other p i other,
  bit_at-lt word i,
)))

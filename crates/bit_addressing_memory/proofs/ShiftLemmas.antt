-- The digits of two words shifted and put together.
--
-- `shifted_word`: by positions, so that it serves either direction and each width. The digits of one number shifted
-- or cut: `bit_at_shr`, `bit_at_cut`, `bit_at_shl_low`, `bit_at_shl_high`.
use Rattle.std.proofs.Common.{◌≡◌, ℕ, ◌+◌, ◌-◌, ◌*◌, ◌/◌, ◌%◌, ◌^◌, ◌==◌, ◌<◌, ◌≤◌, ◌∙◌}
use Rattle.std.proofs.Common.{bit_or, sym, ap, arith}
use Rattle.std.proofs.Math.Pow.{pow_pos}
use Rattle.std.proofs.lemmas.Nat.{div-add-mod'}
use Rattle.std.proofs.lemmas.Nat.Bits.{bit_at_or, bit_at_above, bit_at-zero, bit_at_cat_low, bit_at_cat_high}
use Rattle.std.specs.Int.{bit_at}
use Rattle.bit_addressing_memory.specs.ShiftSteps.{AreShifted}

-- `n >> s`
pub bit_at_shr : (n s p : ℕ) → bit_at (n / 2 ^ s) p ≡ bit_at n (p + s)
bit_at_shr n s p =
    let small : n % 2 ^ s < 2 ^ s = omega (arith, pow_pos s) in
    let back : p + s - s ≡ p = omega arith in
    ap (bit_at (n / 2 ^ s)) (sym back)
    ∙ sym (bit_at_cat_high (n / 2 ^ s) s (n % 2 ^ s) (p + s) small (omega arith))
    ∙ ap (λ m. bit_at m (p + s)) (div-add-mod' n (2 ^ s))

-- a number cut to b digits keeps these
pub bit_at_cut : (n b p : ℕ) → p < b → bit_at (n % 2 ^ b) p ≡ bit_at n p
bit_at_cut n b p low =
    sym (bit_at_cat_low (n / 2 ^ b) b (n % 2 ^ b) p low) ∙ ap (λ m. bit_at m p) (div-add-mod' n (2 ^ b))

-- `n << s`: the lowest digits are zero
pub bit_at_shl_low : (n s p : ℕ) → p < s → bit_at (n * 2 ^ s) p ≡ 0
bit_at_shl_low n s p low =
    let whole : n * 2 ^ s + 0 ≡ n * 2 ^ s = omega arith in
    ap (λ m. bit_at m p) (sym whole) ∙ bit_at_cat_low n s 0 p low ∙ bit_at-zero p

-- and the others those of n
pub bit_at_shl_high : (n s p : ℕ) → s ≤ p → bit_at (n * 2 ^ s) p ≡ bit_at n (p - s)
bit_at_shl_high n s p high =
    let whole : n * 2 ^ s + 0 ≡ n * 2 ^ s = omega arith in
    ap (λ m. bit_at m p) (sym whole) ∙ bit_at_cat_high n s 0 p (pow_pos s) high

-- `low >> by | high << (b - by)`, the words of b bits
pub shifted_digits : (b low high by : ℕ) → low < 2 ^ b → by < b
    → AreShifted b low high (bit_or (low / 2 ^ by) (high * 2 ^ (b - by) % 2 ^ b)) by
shifted_digits b low high by fits within = record {
  from_low = λ p small.
      let none = bit_at_cut (high * 2 ^ (b - by)) b p (omega arith) ∙ bit_at_shl_low high (b - by) p (omega arith) in
      ap (λ d. d == 1)
      (bit_at_or (low / 2 ^ by) (high * 2 ^ (b - by) % 2 ^ b) p ∙ omega (arith, none, bit_at_shr low by p));
  from_high = λ p past small.
      let none = bit_at_shr low by p ∙ bit_at_above low b (p + by) fits past in
      let at : p - (b - by) ≡ p + by - b = omega arith in
      let some =
      bit_at_cut (high * 2 ^ (b - by)) b p small
      ∙ bit_at_shl_high high (b - by) p (omega arith)
      ∙ ap (bit_at high) at in
      ap (λ d. d == 1)
      (bit_at_or (low / 2 ^ by) (high * 2 ^ (b - by) % 2 ^ b) p ∙ omega (arith, none, some));
}

-- the same, of words that are known to be those shifts
pub shifted_word : (b low high down up result by : ℕ) → result ≡ bit_or down up → down ≡ low / 2 ^ by
    → up ≡ high * 2 ^ (b - by) % 2 ^ b → low < 2 ^ b → by < b → AreShifted b low high result by
shifted_word b low high down up result by e1 e2 e3 fits within =
    rw (e1, e2, e3) (shifted_digits b low high by fits within)

-- The word without digits.
use Rattle.std.proofs.Common.{◌≡◌, ℕ, false, ap, ◌∙◌}
use Rattle.std.specs.Prelude.{◌==◌}
use Rattle.std.proofs.lemmas.Nat.Bits.{bit_at-zero}
use Rattle.bit_addressing_memory.specs.Memory.{indexed}
use Rattle.bit_addressing_memory.specs.Bits.{digit_at}

-- each of its digits is 0
pub zero_digit : {T : Type 0} (number : T → ℕ) (at : ℕ → ℕ) (z : T) → number z ≡ 0 → (i : ℕ)
    → indexed number at z i ≡ false
zero_digit number at z is i = ap (λ n. digit_at n (at i)) is ∙ ap (λ q. q == 1) (bit_at-zero (at i))

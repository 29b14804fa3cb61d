-- Two words shifted, by their positions. No public clause cites this module.
use Rattle.std.specs.Prelude.{ℕ, ◌+◌, ◌-◌, ◌<◌, ◌≤◌, ◌≡◌}
use Rattle.bit_addressing_order.specs.Bits.{digit_at}

-- the number n has the digits of low, a word of b bits, from the position `by` on, and then those of high
pub record AreShifted (b low high n by : ℕ) : Type 0 where
  pub from_low : (p : ℕ) → p + by < b → digit_at n p ≡ digit_at low (p + by)
  pub from_high : (p : ℕ) → b ≤ p + by → p < b → digit_at n p ≡ digit_at high (p + by - b)

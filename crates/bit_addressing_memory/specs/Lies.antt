-- Where a stretch of bits lies.
use Rattle.std.specs.Prelude.{ℕ, ◌+◌, ◌*◌, ◌^◌, ◌<◌, ◌≤◌, List, length}

-- the n bits from a place on lie in words of so many bits each, and the place behind them is a 64-bit number
pub record Lies {R : Type 0} (bits : ℕ) (words : List R) (place n : ℕ) : Type 0 where
  pub within : place + n ≤ length words * bits
  pub ends : place + n < 2 ^ 64

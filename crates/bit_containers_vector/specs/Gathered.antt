-- Bits gathered in a number. No public clause cites this module.
use Rattle.std.specs.Prelude.{ℕ, ◌≡◌, ◌%◌, ◌^◌, ◌<◌, Bool, false, List, length, slice_index_or}
use Rattle.bit_addressing_memory.specs.Bits.{digit_at}

-- the n lowest digits of a number of 64 digits are the list xs, the first of it the lowest
pub record Gathers (number n : ℕ) (xs : List Bool) : Type 0 where
  pub size : length xs ≡ n
  pub same : (i : ℕ) → i < n → digit_at (number % 2 ^ 64) i ≡ slice_index_or xs i false

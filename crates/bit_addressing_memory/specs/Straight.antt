-- Positions that go straight with the indices of a word, and two words read one behind the other.
use Rattle.std.specs.Prelude.{ℕ, ◌+◌, ◌-◌, ◌<◌, ◌≤◌, ◌≡◌, ◌⊎◌}
use Rattle.bit_addressing_memory.specs.Memory.{Reading}
use Rattle.bit_addressing_memory.specs.declared.direction.Direction.{Direction}
use Rattle.bit_addressing_memory.specs.declared.direction.Direction.TheVariants.{Ascending, Descending}

-- the position of the index i in a word of so many bits, where positions go up with the indices, or down with them
abbrev pub straight : ℕ → Direction → ℕ → ℕ
straight bits Ascending i = i
straight bits Descending i = bits - 1 - i

-- the positions go in this direction with the indices, over the whole word
abbrev pub Goes : ℕ → (ℕ → ℕ) → Direction → Type 0
Goes bits at direction = (i : ℕ) → i < bits → at i ≡ straight bits direction i

-- the positions go straight with the indices over the whole word: up or down
abbrev pub IsStraight : ℕ → (ℕ → ℕ) → Type 0
IsStraight bits at = Goes bits at Ascending ⊎ Goes bits at Descending

-- the digits of the result are those of two words, one behind the other, from the index `by` of the first on
pub record IsJoined {R : Type 0} (reading : Reading R) (first next result : R) (by : ℕ) : Type 0 where
  pub from_first : (i : ℕ) → by + i < reading.bits → reading.digit result i ≡ reading.digit first (by + i)
  pub from_next : (i : ℕ) → reading.bits ≤ by + i → i < reading.bits
      → reading.digit result i ≡ reading.digit next (by + i - reading.bits)

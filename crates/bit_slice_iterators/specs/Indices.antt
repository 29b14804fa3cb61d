-- Where bits stand in a list: `indices`.
--
-- What an iterator over them holds, which no public clause cites: `low_digits`, `held`; a step of it: `AreDigits`.
use Rattle.std.specs.Prelude.{ℕ, zero, suc, ◌≡◌, ◌+◌, ◌<◌, ◌≤◌, ◌/◌, ◌%◌, ◌==◌, Bool, true, false}
use Rattle.std.specs.Prelude.{List, [], ◌∷◌, length, get_or}
use Rattle.std.proofs.Common.{cond}
use Rattle.bit_addressing_memory.specs.declared.direction.Direction.{Direction}
use Rattle.bit_slice_chunks.specs.Chunk.{chunk_bit}
use Rattle.bit_slice_views.specs.Found.{is_bit}

-- the indices of the bits that pass a test, ascending, the first bit's index being `from`
abbrev pub indices : (Bool → Bool) → ℕ → List Bool → List ℕ
indices test from [] = []
indices test from (x ∷ xs) = cond (test x) (from ∷ indices test (from + 1) xs) (indices test (from + 1) xs)

-- the w lowest digits of a number, the lowest first
unfoldable pub low_digits : ℕ → ℕ → List Bool
low_digits zero n = []
low_digits (suc w) n = (n % 2 == 1) ∷ low_digits w (n / 2)

-- the indices that a number of 64 digits holds: those of its ones, the lowest digit's being `base`
abbrev pub held : ℕ → ℕ → List ℕ
held base n = indices (is_bit true) base (low_digits 64 n)

-- the digits of a chunk are 1 where bits of a list from one on pass, and the others are 0
pub record AreDigits (direction : Direction) (test : Bool → Bool) (bits : List Bool) (from chunk : ℕ) : Type 0 where
  pub inside : (k : ℕ) → k < 64 → from + k < length bits
      → chunk_bit direction chunk k ≡ test (get_or bits (from + k) false)
  pub past : (k : ℕ) → k < 64 → length bits ≤ from + k → chunk_bit direction chunk k ≡ false

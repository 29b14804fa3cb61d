-- The words that some bits lie in, as numbers, with each digit outside the bits zero.
use Rattle.std.specs.Prelude.{ℕ, ◌≡◌, ◌+◌, ◌*◌, ◌<◌, ◌++◌, Bool, false, List, length, replicate, slice_index}
use Rattle.std.specs.Prelude.{slice_index_or}
use Rattle.bit_addressing_memory.specs.Bits.{digit_at}
use Rattle.bit_addressing_memory.specs.Memory.{touched}

-- the numbers are those of the words of b bits that the bits lie in, one after another, where the first bit has the
-- index `start` in its word: the digit of number k at the position of index i is the bit that lies there, or zero
abbrev pub AreMaskedBits : ℕ → (ℕ → ℕ) → ℕ → List Bool → List ℕ → Type 0
AreMaskedBits b at start bits numbers =
    (k i : ℕ) → k < touched b start (length bits) → i < b
    → digit_at (slice_index numbers k) (at i) ≡ slice_index_or (replicate start false ++ bits) (k * b + i) false

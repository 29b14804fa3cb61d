-- Letters told row by row, answers as digits, the places of ones, and bits that come as chunks. No public clause cites
-- this module.
use Rattle.std.specs.Prelude.{ℕ, ◌+◌, ◌<◌, ◌≤◌, ◌≡◌, Bool, false, List, [], ◌∷◌, if◌then◌else◌, length, slice_index_or}
use Rattle.bit_addressing_memory.specs.Bits.{digit_at}
use Rattle.bit_table_layout.specs.LetterSets.{with_letter, LetterSet}

-- the letters of rows, letter x of each as a flag says: of those rows that have a flag
abbrev pub told : ℕ → List Bool → List LetterSet → List LetterSet
told x [] marks = marks
told x (flag ∷ flags) [] = []
told x (flag ∷ flags) (letters ∷ marks) = with_letter x flag letters ∷ told x flags marks

-- the first n digits of a number are as each is told, and the others zero
pub record AreDigits (told : ℕ → Bool) (n number : ℕ) : Type 0 where
  pub inside : (k : ℕ) → k < n → digit_at number k ≡ told k
  pub past : (k : ℕ) → n ≤ k → digit_at number k ≡ false

-- the places of the ones among bits, of which the first has this place
abbrev pub ones_from : ℕ → List Bool → List ℕ
ones_from place [] = []
ones_from place (bit ∷ bits) = if bit then place ∷ ones_from (place + 1) bits else ones_from (place + 1) bits

-- the list has these n bits from a place on
pub record HasChunk (bits : List Bool) (first n : ℕ) (chunk : ℕ → Bool) : Type 0 where
  pub within : first + n ≤ length bits
  pub is : (i : ℕ) → i < n → slice_index_or bits (first + i) false ≡ chunk i

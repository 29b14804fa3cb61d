-- What is left of an array's bits.
--
-- Its list: `left_bits`. Where it lies: `left_place`, `left_words`. What a call takes off: `GivesFirstLeft`,
-- `GivesLastLeft`.
use Rattle.std.specs.Prelude.{ℕ, ◌≡◌, ◌+◌, Bool, List, length, min, Option, MatchOption}
use Rattle.std.specs.Iterator.{YieldsFirst, YieldsLast}
use Rattle.bit_addressing_memory.specs.Memory.{Reading, piece}
use Rattle.bit_containers_array.specs.Array.{array_bits, array_with, array_words}
use Rattle.bit_containers_array.specs.declared.iter.IntoIter.{IntoIter}

-- the bits that an iterator has not given yet, at words that are read so
abbrev pub left_bits : {A O S C R : Type 0} → Reading R → (A → List R) → IntoIter A O S C → List Bool
left_bits reading words iter = piece (array_bits reading words iter.array) iter.from iter.count

-- the place of the first of them in those words, or the end where none is left behind it
abbrev pub left_place : {A O S C R : Type 0} → Reading R → (A → List R) → IntoIter A O S C → ℕ
left_place reading words iter = min iter.from (length (array_bits reading words iter.array))

-- the words of its array, and it with others in that
abbrev pub left_words : {A O S C R : Type 0} → (A → List R) → IntoIter A O S C → List R
left_words words iter = array_words words iter.array

abbrev pub left_with : {A O S C R : Type 0} → (A → List R → A) → IntoIter A O S C → List R → IntoIter A O S C
left_with with_words iter words =
    record iter { array = array_with iter.array (with_words iter.array.words words) }

-- a call gives the first bit, or nothing where none is left; what is left then begins behind it, in the same words
abbrev pub GivesFirstLeft : {A O S C R : Type 0} → Reading R → (A → List R) → IntoIter A O S C → Option Bool
    → IntoIter A O S C → Type 0
GivesFirstLeft reading words before r after =
    YieldsFirst (left_bits reading words) before r after
    × (left_words words after ≡ left_words words before)
    × MatchOption r (left_place reading words after ≡ left_place reading words before)
    (λ _. left_place reading words after ≡ left_place reading words before + 1)

-- the same of the last bit: what is left begins where it did
abbrev pub GivesLastLeft : {A O S C R : Type 0} → Reading R → (A → List R) → IntoIter A O S C → Option Bool
    → IntoIter A O S C → Type 0
GivesLastLeft reading words before r after =
    YieldsLast (left_bits reading words) before r after
    × (left_words words after ≡ left_words words before)
    × (left_place reading words after ≡ left_place reading words before)

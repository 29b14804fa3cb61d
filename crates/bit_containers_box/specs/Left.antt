-- What is left of the bits of a box.
--
-- Its list: `left_bits`. Where it lies: `left_place`, `left_words`. What a call takes off: `GivesFirstLeft`,
-- `GivesLastLeft`.
use Rattle.std.specs.Prelude.{ℕ, ◌≡◌, ◌+◌, Bool, List, Option, MatchOption}
use Rattle.std.specs.Iterator.{YieldsFirst, YieldsLast}
use Rattle.bit_addressing_memory.specs.Memory.{Reading, memory, piece}
use Rattle.bit_containers_box.specs.declared.iter.IntoIter.{IntoIter}

-- the bits that an iterator has not given yet, at words that are read so
abbrev pub left_bits : {T O : Type 0} {g : _} → Reading T → IntoIter T O g → List Bool
left_bits reading iter = piece (memory reading iter.words.items) iter.place iter.len

-- the place of the first of them in the words
abbrev pub left_place : {T O : Type 0} {g : _} → IntoIter T O g → ℕ
left_place iter = iter.place

-- the words in which they lie
abbrev pub left_words : {T O : Type 0} {g : _} → IntoIter T O g → List T
left_words iter = iter.words.items

-- a call gives the first bit, or nothing where none is left; what is left then begins behind it, in the same words
abbrev pub GivesFirstLeft : {T O : Type 0} {g : _} → Reading T → IntoIter T O g → Option Bool → IntoIter T O g → Type 0
GivesFirstLeft reading before r after =
    YieldsFirst (left_bits reading) before r after
    × (left_words after ≡ left_words before)
    × MatchOption r (left_place after ≡ left_place before) (λ _. left_place after ≡ left_place before + 1)

-- the same of the last bit: what is left begins where it did
abbrev pub GivesLastLeft : {T O : Type 0} {g : _} → Reading T → IntoIter T O g → Option Bool → IntoIter T O g → Type 0
GivesLastLeft reading before r after =
    YieldsLast (left_bits reading) before r after
    × (left_words after ≡ left_words before)
    × (left_place after ≡ left_place before)

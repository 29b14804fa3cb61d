-- Lists of bits that hold the letters of rows: one list a letter, with one bit a row.
use Rattle.std.specs.Prelude.{◌≡◌, ℕ, ◌+◌, ◌<◌, ◌≤◌, Bool, false, List, [], length, map, slice_index_or}
use Rattle.std.specs.List.{filter, range_with_len}
use Rattle.std.specs.FinSet as set
use Rattle.bit_table_layout.specs.LetterSets.{LetterSet, letter_count, with_letter}

-- letters as contracts see them: those of each row, and for how many rows there is memory
pub record LettersView : Type 0 where
  pub sets : List LetterSet
  pub space : ℕ

-- the list of letter x
abbrev pub list_of : List (List Bool) → ℕ → List Bool
list_of lists x = slice_index_or lists x []

-- the letters that row k bears: those whose lists have a one there
abbrev pub letters_at : List (List Bool) → ℕ → LetterSet
letters_at lists k = set.from_list (filter (λ x. slice_index_or (list_of lists x) k false) (range_with_len 0 letter_count))

-- the letters of n rows, row by row
abbrev pub marks_of : ℕ → List (List Bool) → List LetterSet
marks_of n lists = map (letters_at lists) (range_with_len 0 n)

-- the rows' letters, letter x of each row as it is decided by the row's letters
abbrev pub decided : ℕ → (LetterSet → Bool) → List LetterSet → List LetterSet
decided x decide marks = map (λ letters. with_letter x (decide letters) letters) marks

-- after is before with letter x of the n rows from a row on as each is told, and all else as it was
pub record TellsRows (x first n : ℕ) (told : ℕ → Bool) (before after : List LetterSet) : Type 0 where
  pub there : (k : ℕ) → k < n
      → slice_index_or after (first + k) set.empty
      ≡ with_letter x (told k) (slice_index_or before (first + k) set.empty)
  pub below : (k : ℕ) → k < first → slice_index_or after k set.empty ≡ slice_index_or before k set.empty
  pub above : (k : ℕ) → first + n ≤ k → slice_index_or after k set.empty ≡ slice_index_or before k set.empty
  pub len : length after ≡ length before

-- Rows with their letters.
use Rattle.std.specs.Prelude.{ℕ, ◌+◌, List, [], ◌∷◌, ◌++◌, map, take, drop, slice_range}
use Rattle.bit_table_layout.specs.Rows.{Row}
use Rattle.bit_table_layout.specs.LetterSets.{LetterSet}

-- the rows with these letters, row by row
abbrev pub lettered : List Row → List LetterSet → List Row
lettered [] marks = []
lettered (row ∷ rows) [] = row ∷ rows
lettered (row ∷ rows) (letters ∷ marks) = record row { letters = letters } ∷ lettered rows marks

-- the letters of rows, row by row
abbrev pub all_letters : List Row → List LetterSet
all_letters rows = map (λ (row : Row). row.letters) rows

-- a list whose element p is changed by h
abbrev pub changed_at : {A : Type 0} → (A → A) → ℕ → List A → List A
changed_at h p xs = take p xs ++ (map h (slice_range xs p (p + 1)) ++ drop (p + 1) xs)

-- What an edit of rows makes of any list that has one element a row.
use Rattle.std.specs.Prelude.{ℕ, ◌+◌, ◌-◌, ◌*◌, ◌<◌, ◌≤◌, Bool, true, false, List, [], ◌∷◌, ⊤}
use Rattle.std.specs.List.{swap}
use Rattle.bit_addressing_memory.specs.Memory.{touched}
use Rattle.bit_table_rows.specs.RowEdits.{inserted, deleted, copied, exchanged, turned, repeated}
use Rattle.bit_table_rows.specs.declared.edit.RowEdit.{RowEdit}
use Rattle.bit_table_rows.specs.declared.edit.RowEdit.TheVariants.{Insert, Delete, Copy, Swap, Rotate, Dup}

-- the list after the edit; x is the element of a new row
abbrev pub edited_by : {X : Type 0} → X → RowEdit → List X → List X
edited_by x (Insert p) xs = inserted xs p (x ∷ [])
edited_by x (Delete p q) xs = deleted xs p q
edited_by x (Copy p q r) xs = copied xs p q r
edited_by x (Swap p q) xs = swap xs p q
edited_by x (Rotate p q k) xs = turned xs p q k
edited_by x (Dup p q) xs = repeated xs p q

-- the bits of rows of w bits each after the edit; ys are those of a new row
abbrev pub bits_edited_by : ℕ → List Bool → RowEdit → List Bool → List Bool
bits_edited_by w ys (Insert p) xs = inserted xs (p * w) ys
bits_edited_by w ys (Delete p q) xs = deleted xs (p * w) (q * w)
bits_edited_by w ys (Copy p q r) xs = copied xs (p * w) (q * w) (r * w)
bits_edited_by w ys (Swap p q) xs = exchanged xs (p * w) (q * w) w
bits_edited_by w ys (Rotate p q k) xs = turned xs (p * w) (q * w) (k * w)
bits_edited_by w ys (Dup p q) xs = repeated xs (p * w) (q * w)

-- P holds, where the edit puts a new row in
abbrev pub WhereNew : RowEdit → Type 0 → Type 0
WhereNew (Insert p) P = P
WhereNew e P = ⊤

-- its rows are there, where there are n rows
abbrev pub LiesIn : ℕ → RowEdit → Type 0
LiesIn n (Insert p) = p ≤ n
LiesIn n (Delete p q) = (p ≤ q) × (q ≤ n)
LiesIn n (Copy p q r) = (p ≤ q) × (q ≤ n) × (r + (q - p) ≤ n)
LiesIn n (Swap p q) = (p < n) × (q < n)
LiesIn n (Rotate p q k) = (p ≤ q) × (q ≤ n) × (k ≤ q - p)
LiesIn n (Dup p q) = (p ≤ q) × (q ≤ n)

-- how many rows it adds
abbrev pub added : RowEdit → ℕ
added (Insert p) = 1
added (Dup p q) = q - p
added e = 0

-- how many rows it takes out
abbrev pub taken_out : RowEdit → ℕ
taken_out (Delete p q) = q - p
taken_out e = 0

-- how many rows there are after it, where there were n
abbrev pub count_after : ℕ → RowEdit → ℕ
count_after n e = n + added e - taken_out e

-- whether it moves rows by a sweep
abbrev pub moves_rows : RowEdit → Bool
moves_rows (Insert p) = true
moves_rows (Delete p q) = true
moves_rows e = false

-- how many words of so many bits the move of an edit writes at most, of n rows of w bits each: those that the rows touch
-- at their new places. Only insertions and deletions move rows by a sweep
abbrev pub most_moved : ℕ → ℕ → ℕ → RowEdit → ℕ
most_moved word w n (Insert p) = touched word ((p + 1) * w) ((n - p) * w)
most_moved word w n (Delete p q) = touched word (p * w) ((n - q) * w)
most_moved word w n e = 0

-- Rows of w bits each, of which those stay whose flag is false.
use Rattle.std.specs.Prelude.{ℕ, ◌*◌, Bool, false, List, [], ◌∷◌, if◌then◌else◌, length, not, slice_index_or}
use Rattle.std.specs.List.{filter, flat_map, range_with_len}
use Rattle.bit_addressing_memory.specs.Memory.{Overwrites, Reading, memory, piece, with_piece}
use Rattle.bit_table_rows.specs.RowMoves.{row_at}

-- the numbers of those rows of the first n whose flags are false, in order
abbrev pub left_before : List Bool → ℕ → List ℕ
left_before off n = filter (λ k. not (slice_index_or off k false)) (range_with_len 0 n)

-- the numbers of all rows whose flags are false, in order
abbrev pub rows_left : List Bool → List ℕ
rows_left off = left_before off (length off)

-- the rows of these numbers, end to end
abbrev pub rows_joined : ℕ → List Bool → List ℕ → List Bool
rows_joined w bits numbers = flat_map (row_at w bits) numbers

-- the rows whose flags are false, end to end
abbrev pub kept : ℕ → List Bool → List Bool → List Bool
kept w off bits = rows_joined w bits (rows_left off)

-- the elements whose flags are false: of rows, those that stay
unfoldable pub left_of : {X : Type 0} → List Bool → List X → List X
left_of [] xs = []
left_of (goes ∷ off) [] = []
left_of (goes ∷ off) (x ∷ xs) = if goes then left_of off xs else x ∷ left_of off xs

-- the list with these rows written over its first ones
abbrev pub rows_kept : ℕ → List Bool → List Bool → List Bool
rows_kept w off bits = with_piece bits 0 (kept w off bits)

-- after is before with the kept rows of those from a place on made its first ones: each other entry is as before, and
-- there are as many words
abbrev pub KeepsRows : {R : Type 0} → Reading R → List R → List R → ℕ → ℕ → List Bool → Type 0
KeepsRows reading before after place w off =
    Overwrites reading before after place (length (rows_left off) * w)
    (λ i. slice_index_or (kept w off (piece (memory reading before) place (length off * w))) i false)

-- Rows of w bits each that lie end to end in a list of bits, and what a move of some of them makes of the list.
use Rattle.std.specs.Prelude.{ℕ, ◌-◌, ◌*◌, Bool, List}
use Rattle.bit_addressing_memory.specs.Memory.{piece, with_piece}

-- row k of rows of w bits
abbrev pub row_at : ℕ → List Bool → ℕ → List Bool
row_at w bits k = piece bits (k * w) w

-- the rows from p up to before n, end to end
abbrev pub rows_between : ℕ → List Bool → ℕ → ℕ → List Bool
rows_between w bits p n = piece bits (p * w) ((n - p) * w)

-- the list with the rows from p up to before n written over what stands from row q on
abbrev pub rows_moved : ℕ → List Bool → ℕ → ℕ → ℕ → List Bool
rows_moved w bits p q n = with_piece bits (q * w) (rows_between w bits p n)

-- Known rows of two bits, moved on the definitions.
use Rattle.std.proofs.Common.{◌≡◌, true, false, [], ◌∷◌, Bool, List, refl}
use Rattle.bit_addressing_memory.specs.Memory.{piece, with_piece}
use Rattle.bit_table_rows.specs.RowMoves.{row_at, rows_moved}

-- four rows: 10, 11, 01, 00
four : List Bool
four = true ∷ false ∷ true ∷ true ∷ false ∷ true ∷ false ∷ false ∷ []

third : row_at 2 four 2 ≡ false ∷ true ∷ []
unfolding piece four
third = refl

-- an insertion before row 1 moves rows 1 and 2 to rows 2 and 3
opened : rows_moved 2 four 1 2 3
    ≡ true ∷ false ∷ true ∷ true ∷ true ∷ true ∷ false ∷ true ∷ []
unfolding piece with_piece four
opened = refl

-- a deletion of row 0 moves the rows from 1 on to the front, and leaves what stands behind them
closed : rows_moved 2 four 1 0 4
    ≡ true ∷ true ∷ false ∷ true ∷ false ∷ false ∷ false ∷ false ∷ []
unfolding piece with_piece four
closed = refl

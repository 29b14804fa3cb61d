-- Known rows of two bits, edited on the definitions.
use Rattle.std.proofs.Common.{◌≡◌, true, false, [], ◌∷◌, Bool, List, refl}
use Rattle.bit_addressing_memory.specs.Memory.{piece, with_piece}
use Rattle.bit_table_rows.specs.RowEdits.{inserted, deleted, repeated, copied, exchanged, turned}

-- four rows: 10, 11, 01, 00
four : List Bool
four = true ∷ false ∷ true ∷ true ∷ false ∷ true ∷ false ∷ false ∷ []

-- 01 put in before row 1
more : inserted four 2 (false ∷ true ∷ [])
    ≡ true ∷ false ∷ false ∷ true ∷ true ∷ true ∷ false ∷ true ∷ false ∷ false ∷ []
unfolding four
more = refl

-- rows 1 and 2 taken out
fewer : deleted four 2 6 ≡ true ∷ false ∷ false ∷ false ∷ []
unfolding four
fewer = refl

-- row 1 once more
again : repeated four 2 4 ≡ true ∷ false ∷ true ∷ true ∷ false ∷ true ∷ false ∷ false ∷ true ∷ true ∷ []
unfolding four
again = refl

-- rows 0 to 2 over the rows from 1 on
over : copied four 0 6 2 ≡ true ∷ false ∷ true ∷ false ∷ true ∷ true ∷ false ∷ true ∷ []
unfolding four
over = refl

-- rows 0 and 2 exchanged, and row 1 with itself
other : exchanged four 0 4 2 ≡ false ∷ true ∷ true ∷ true ∷ true ∷ false ∷ false ∷ false ∷ []
unfolding piece with_piece four
other = refl

itself : exchanged four 2 2 2 ≡ four
unfolding piece with_piece four
itself = refl

-- rows 1 to 3 turned by one row
round : turned four 2 8 2 ≡ true ∷ false ∷ false ∷ true ∷ false ∷ false ∷ true ∷ true ∷ []
unfolding four
round = refl

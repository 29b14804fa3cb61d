-- Tables packed from rows of numbers, and read back.
use Rattle.std.specs.Prelude.{◌≡◌, ℕ, ℤ, List, length, Some, ⊤}
use Rattle.bit_table.specs.Images.{image_bytes}
use Rattle.bit_table.specs.Layouts.{LayoutShape, layout_of}
use Rattle.bit_table.specs.Rows.{all_numbers}
use Rattle.bit_table.specs.Tables.{TableShape}
use Rattle.column_table.specs.declared.store.StoreError.{StoreError}
use Rattle.column_table.specs.declared.store.StoreError.TheVariants.{Memory}

-- a table has this layout and rows of these numbers
pub record HasRows (l : LayoutShape) (rows : List (List ℤ)) (t : TableShape) : Type 0 where
  pub layout : t.layout ≡ l
  pub numbers : all_numbers t.rows ≡ rows

-- a layout line, a row count and image bytes are those of a table
pub record AreOf (t : TableShape) (line : List ℕ) (n : ℕ) (image : List ℕ) : Type 0 where
  pub layout : layout_of line ≡ Some t.layout
  pub count : n ≡ length t.rows
  pub bytes : image ≡ image_bytes t.layout t.rows

-- memory was wanted
abbrev pub IsMemory : StoreError → Type 0
IsMemory (Memory e) = ⊤
IsMemory e = ⊥

-- The rows that bytes hold, and the bytes that are an image.
use Rattle.std.specs.Prelude.{◌≡◌, ℕ, pos, Bool, true, List, length, ◌↔◌}
use Rattle.std.specs.List.{flat_map}
use Rattle.std.specs.Str.{bytes_eq}
use Rattle.bit_table_layout.specs.declared.layout.Rule.{Rule}
use Rattle.bit_table_layout.specs.Layouts.{LayoutShape, is_layout}
use Rattle.bit_table_layout.specs.Rows.{Row, are_rows, field_bits}
use Rattle.bit_table_layout.specs.Images.{image_bytes}
use Rattle.bit_table_layout.specs.Readings.{rows_from}

-- the bits of bytes, end to end: a byte's digits 0 to 7 under `low`, 7 to 0 under `high`
abbrev pub bits_of_bytes : Rule → List ℕ → List Bool
bits_of_bytes rule bytes = flat_map (λ byte. field_bits rule 8 (pos byte)) bytes

-- the first count rows of bytes, none of which bears a letter
abbrev pub rows_in_bytes : LayoutShape → ℕ → List ℕ → List Row
rows_in_bytes l count bytes = rows_from l count (bits_of_bytes l.rule bytes)

-- whether bytes are the image of so many rows: those that they hold have this image
abbrev pub is_image : LayoutShape → ℕ → List ℕ → Bool
is_image l count bytes = bytes_eq (image_bytes l (rows_in_bytes l count bytes)) bytes

-- whether a list of so many rows of the layout has these image bytes
abbrev pub HasRows : LayoutShape → ℕ → List ℕ → Type 0
HasRows l count bytes =
    (rows : List Row) × (are_rows l rows ≡ true) × (length rows ≡ count) × (image_bytes l rows ≡ bytes)

-- exactly the image bytes of so many rows are taken
abbrev pub LoadsTakeImages : Type 0
LoadsTakeImages =
    (l : LayoutShape) → is_layout l ≡ true → (count : ℕ) → (bytes : List ℕ)
    → (is_image l count bytes ≡ true) ↔ HasRows l count bytes

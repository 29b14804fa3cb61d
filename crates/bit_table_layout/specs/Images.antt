-- The image of a list of rows.
use Rattle.std.specs.Prelude.{◌≡◌, ℕ, ◌+◌, ◌-◌, ◌*◌, ◌/◌, ◌==◌, Bool, true, false, List, [], ◌∷◌, ◌++◌, length}
use Rattle.std.specs.Prelude.{take, drop, map, reverse, replicate, decimal, if◌then◌else◌, ◌↔◌}
use Rattle.std.specs.List.{range_with_len}
use Rattle.hex.specs.Hex.{encode_lower}
use Rattle.bit_table_layout.specs.declared.layout.Rule.{Rule}
use Rattle.bit_table_layout.specs.declared.layout.Rule.TheVariants.{Low, High}
use Rattle.bit_table_layout.specs.Digits.{binary}
use Rattle.bit_table_layout.specs.Layouts.{LayoutShape, is_layout}
use Rattle.bit_table_layout.specs.Rows.{Row, are_rows, table_bits, all_numbers}

-- the byte of eight bits, or of fewer and then zeros: the first bit weighs 1 under `low` and 128 under `high`
abbrev pub byte_of : Rule → List Bool → ℕ
byte_of Low eight = binary eight
byte_of High eight = binary (replicate (8 - length eight) false ++ reverse eight)

-- the bytes of bits that are cut by eight
abbrev pub bytes_of : Rule → List Bool → List ℕ
bytes_of rule bits = map (λ k. byte_of rule (take 8 (drop (8 * k) bits))) (range_with_len 0 ((length bits + 7) / 8))

-- the image bytes of rows
abbrev pub image_bytes : LayoutShape → List Row → List ℕ
image_bytes l rows = bytes_of l.rule (table_bits l rows)

-- the image line: the row count and, where there are rows, a space and the bytes in hexadecimal
abbrev pub image_line : ℕ → List ℕ → List ℕ
image_line count bytes = decimal count ++ (if count == 0 then [] else (32 ∷ encode_lower bytes))

-- the image line of rows
abbrev pub line_of_rows : LayoutShape → List Row → List ℕ
line_of_rows l rows = image_line (length rows) (image_bytes l rows)

-- a list of so many rows of the layout with these image bytes has these numbers, and there is no other
abbrev pub HasOnlyNumbers : LayoutShape → ℕ → List ℕ → List Row → Type 0
HasOnlyNumbers l count bytes rows =
    (others : List Row) → are_rows l others ≡ true → length others ≡ count → image_bytes l others ≡ bytes
    → all_numbers others ≡ all_numbers rows

-- images of one layout are equal exactly if the rows' numbers are
abbrev pub ImagesTellNumbers : Type 0
ImagesTellNumbers =
    (l : LayoutShape) → is_layout l ≡ true → (rows others : List Row)
    → are_rows l rows ≡ true → are_rows l others ≡ true
    → (line_of_rows l rows ≡ line_of_rows l others) ↔ (all_numbers rows ≡ all_numbers others)

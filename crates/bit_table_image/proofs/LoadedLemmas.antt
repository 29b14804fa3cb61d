-- Rows that were read from bytes.
use Rattle.std.proofs.Common.{◌≡◌, ℕ, true, List, sym, ◌∙◌}
use Rattle.bit_table_layout.specs.Images.{HasOnlyNumbers}
use Rattle.bit_table_layout.specs.Layouts.{LayoutShape, is_layout}
use Rattle.bit_table_layout.specs.Loads.{bits_of_bytes, is_image, rows_in_bytes}
use Rattle.bit_table_layout.proofs.ImageLemmas.{has_only_numbers}
use Rattle.bit_table_layout.proofs.LoadLemmas.{is_image-Decides}
use Rattle.bit_table_layout.proofs.RowLemmas.{are_rows-rows_from, length-rows_from}

-- no other rows have these bytes
pub only_loaded : (l : LayoutShape) (count : ℕ) (bytes : List ℕ) → is_layout l ≡ true → is_image l count bytes ≡ true
    → HasOnlyNumbers l count bytes (rows_in_bytes l count bytes)
only_loaded l count bytes lawful image others are size same =
    has_only_numbers l (rows_in_bytes l count bytes) lawful
    (are_rows-rows_from l count (bits_of_bytes l.rule bytes) lawful) others are
    (size ∙ sym (length-rows_from l count (bits_of_bytes l.rule bytes)))
    (same ∙ sym ((is_image-Decides l count bytes).0 image))

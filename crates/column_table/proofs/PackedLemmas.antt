-- Tables that are filled, and read back.
use Rattle.std.proofs.Common.{◌≡◌, ℕ, ℤ, ◌+◌, ◌*◌, ◌/◌, ◌≤◌, List, [], ◌∷◌, ◌++◌}
use Rattle.std.proofs.Common.{length, sym, ap, ap₂, subst, ◌∙◌}
use Rattle.std.proofs.Common.{arith, mul-le-mul_right}
use Rattle.std.specs.Prelude.{Some, None}
use Rattle.bit_table.specs.Causes.{cause_in}
use Rattle.bit_table.specs.Edits.{edit}
use Rattle.bit_table.specs.Images.{image_bytes}
use Rattle.bit_table.specs.LayoutLimits.{MAX_BITS}
use Rattle.bit_table.specs.Layouts.{LayoutShape, layout_of, row_width}
use Rattle.bit_table.specs.Rows.{all_numbers}
use Rattle.bit_table.specs.Tables.{TableShape, IsTable, new_table}
use Rattle.bit_table.specs.CommandVariants.{Load}
use Rattle.bit_table.proofs.AcceptedLemmas.{load-accepted}
use Rattle.bit_table.proofs.LoadLemmas.{all_numbers-rows_in_bytes}
use Rattle.column_table.specs.Packed.{AreOf, HasRows}

-- what a table loads from the line, the row count and the image of another
pub loaded : (t start new : TableShape) (l : LayoutShape) (line : List ℕ) (n : ℕ) (image : List ℕ) → IsTable t
    → AreOf t line n image → layout_of line ≡ Some l → start ≡ new_table l → new ≡ edit start (Load n image)
    → HasRows t.layout (all_numbers t.rows) new
loaded t start new l line n image lawful are spelled fresh is =
    let same : l ≡ t.layout = let e = are.layout in cc in
    let whole : new ≡ edit (new_table t.layout) (Load (length t.rows) (image_bytes t.layout t.rows)) =
    is ∙ ap (λ s. edit s (Load n image)) (fresh ∙ ap new_table same)
    ∙ ap₂ (λ k bytes. edit (new_table t.layout) (Load k bytes)) are.count are.bytes in
    record {
      layout = ap (λ s. s.layout) whole;
      numbers = ap (λ s. all_numbers s.rows) whole
          ∙ all_numbers-rows_in_bytes t.layout t.rows lawful.layout lawful.rows.lawful;
    }

-- and no cause refuses it
pub not_refused : (t start : TableShape) (l : LayoutShape) (line : List ℕ) (n : ℕ) (image bytes : List ℕ) → IsTable t
    → AreOf t line n image → layout_of line ≡ Some l → start ≡ new_table l → bytes ≡ image
    → cause_in start (Load n bytes) ≡ None
not_refused t start l line n image bytes lawful are spelled fresh is =
    let same : l ≡ t.layout = let e = are.layout in cc in
    ap (λ b. cause_in start (Load n b)) is
    ∙ ap (λ s. cause_in s (Load n image)) (fresh ∙ ap new_table same)
    ∙ ap₂ (λ k b. cause_in (new_table t.layout) (Load k b)) are.count are.bytes
    ∙ load-accepted t lawful

-- a new table has no rows
pub none_packed : (l : LayoutShape) (start new : TableShape) → new ≡ start → start ≡ new_table l → HasRows l [] new
none_packed l start new e fresh = record {
  layout = ap (λ s. s.layout) (e ∙ fresh);
  numbers = ap (λ s. all_numbers s.rows) (e ∙ fresh);
}

-- one row more
pub one_packed : (l : LayoutShape) (rows : List (List ℤ)) (numbers : List ℤ) (mid new : TableShape) → HasRows l rows mid
    → HasRows mid.layout (all_numbers mid.rows ++ numbers ∷ []) new → HasRows l (rows ++ numbers ∷ []) new
one_packed l rows numbers mid new before step = record {
  layout = step.layout ∙ before.layout;
  numbers = step.numbers ∙ ap (λ ns. ns ++ numbers ∷ []) before.numbers;
}

product : (n w : ℕ) → n ≤ MAX_BITS / w → (0 + n) * w ≤ MAX_BITS
product n w h =
    let most : n * w ≤ (MAX_BITS / w) * w = mul-le-mul_right w h in
    omega arith

-- so many rows are not too many for a new table
pub few_rows : (s : TableShape) (l : LayoutShape) (n w : ℕ) → s ≡ new_table l → w ≡ row_width l.fields
    → n ≤ MAX_BITS / w → (length s.rows + n) * row_width s.layout.fields ≤ MAX_BITS
few_rows s l n w fresh width h =
    subst (λ (t : TableShape). (length t.rows + n) * row_width t.layout.fields ≤ MAX_BITS) (sym fresh)
    (subst (λ (k : ℕ). (0 + n) * k ≤ MAX_BITS) width (product n w h))

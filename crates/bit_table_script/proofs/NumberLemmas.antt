-- One number of a row, read where its bits stand.
use Rattle.std.proofs.Common.{◌≡◌, ℕ, zero, suc, ◌+◌, ◌≤◌, Bool, List, [], ◌∷◌, ℤ, length, take, drop, get_or, sym}
use Rattle.std.proofs.Common.{ap, ◌∙◌, arith}
use Rattle.std.specs.Prelude.{◌*◌, ◌<◌, pos, Some, slice_get}
use Rattle.std.proofs.lemmas.Option.{get_or_from_slice_get}
use Rattle.std.proofs.lemmas.List.{drop-drop, places, same_lists}
use Rattle.std.proofs.lemmas.List.Sums.{sum_by-cons}
use Rattle.bit_table_layout.specs.declared.layout.Rule.{Rule}
use Rattle.bit_table_layout.specs.Fields.{FieldShape}
use Rattle.bit_table_layout.specs.Layouts.{LayoutShape, row_width}
use Rattle.bit_table_layout.specs.Readings.{number_from, numbers_from, rows_from}
use Rattle.bit_table_layout.specs.Rows.{Row, new_row}
use Rattle.bit_addressing_memory.specs.Memory.{piece}
use Rattle.bit_table_commands.specs.Marks.{number_in_field}
use Rattle.bit_table_fields.specs.Windows.{number_held}
use Rattle.bit_table_rows.proofs.PlaceLemmas.{place_behind}
use Rattle.bit_table_rows.proofs.RowListCallerLemmas.{field_inside, number_within, row_read}

-- a part of a part
pub part_of_part : (bits : List Bool) (a w b k : ℕ) → b + k ≤ w
    → take k (drop b (take w (drop a bits))) ≡ take k (drop (a + b) bits)
part_of_part bits a w b k inside = same_lists _ _ (grind (arith, places)) (λ k d h. grind (arith, places))

-- number i of the numbers that bits hold
pub number_in : (rule : Rule) (fs : List FieldShape) (i : ℕ) (f : FieldShape) (d : ℤ) (bits : List Bool)
    → slice_get fs i ≡ Some f
    → get_or (numbers_from rule fs bits) i d ≡ number_from rule f (take f.width (drop (row_width (take i fs)) bits))
number_in rule [] i f d bits is = cc
number_in rule (g ∷ fs) zero f d bits is =
    let same : g ≡ f = cc in
    ap (λ (h : FieldShape). number_from rule h (take h.width bits)) same
number_in rule (g ∷ fs) (suc i) f d bits is =
    let before : row_width (take (suc i) (g ∷ fs)) ≡ g.width + row_width (take i fs) =
    sum_by-cons (λ (h : FieldShape). h.width) g (take i fs) in
    number_in rule fs i f d (drop g.width bits) is
    ∙ ap (λ xs. number_from rule f (take f.width xs))
    (drop-drop (row_width (take i fs)) g.width bits ∙ ap (λ m. drop m bits) (sym before))

-- number f of row p, of n rows that bits hold
pub number_at : (l : LayoutShape) (n : ℕ) (bits : List Bool) → length bits ≡ n * row_width l.fields
    → (p f : ℕ) (field : FieldShape) (row : Row) → p < n → slice_get l.fields f ≡ Some field
    → number_held l.rule field.signed field.width
    (piece bits (p * row_width l.fields + row_width (take f l.fields)) field.width)
    ≡ number_in_field (Some f) (get_or (rows_from l n bits) p row)
unfolding piece
number_at l n bits all p f field row low is =
    let w = row_width l.fields in
    let off = row_width (take f l.fields) in
    let here : get_or (rows_from l n bits) p row ≡ new_row (numbers_from l.rule l.fields (take w (drop (p * w) bits))) =
    get_or_from_slice_get (rows_from l n bits) p _ row (row_read l n bits all p low) in
    ap (number_from l.rule field) (sym (part_of_part bits (p * w) w off field.width (field_inside l.fields f field is)))
    ∙ sym (number_in l.rule l.fields f field (pos 0) (take w (drop (p * w) bits)) is)
    ∙ ap (λ r. number_in_field (Some f) r) (sym here)

-- a number k rows behind row p, of bits and fields as they are read one by one
module _ (l : LayoutShape) (n : ℕ) (bits : List Bool) (all : length bits ≡ n * row_width l.fields) (p k f : ℕ)
    (field : FieldShape) (low : p + k < n) (is : slice_get l.fields f ≡ Some field) (held : List Bool) (w o d : ℕ)
    (same : held ≡ bits) (is_w : w ≡ row_width l.fields) (is_o : o ≡ row_width (take f l.fields))
    (is_d : d ≡ field.width) where
  -- it lies among the bits
  pub behind_within : p * w + o + k * w + d ≤ length held
  behind_within =
      rw (same, is_w, is_o, is_d)
      (omega (arith, place_behind p k (row_width l.fields), number_within l n bits all (p + k) f field low is))

  -- and is the row's
  pub number_behind : (row : Row) (rule : Rule) (signed : Bool) → rule ≡ l.rule → signed ≡ field.signed
      → number_held rule signed d (piece held (p * w + o + k * w) d)
      ≡ number_in_field (Some f) (get_or (rows_from l n bits) (p + k) row)
  number_behind row rule signed is_rule is_signed =
      let at : p * row_width l.fields + row_width (take f l.fields) + k * row_width l.fields
      ≡ (p + k) * row_width l.fields + row_width (take f l.fields) =
      omega (arith, place_behind p k (row_width l.fields)) in
      rw (same, is_w, is_o, is_d, is_rule, is_signed, at) (number_at l n bits all (p + k) f field row low is)

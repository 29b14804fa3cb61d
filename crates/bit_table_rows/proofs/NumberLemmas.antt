-- One number of a row's bits written over.
use Rattle.std.proofs.Common.{◌≡◌, ℕ, zero, suc, ◌+◌, ◌≤◌, Bool, true, List, [], ◌∷◌, ℤ, length}
use Rattle.std.proofs.Common.{take, drop, set, sym, ap, ap₂, ◌∙◌, arith, length-drop}
use Rattle.std.specs.Prelude.{Some, slice_get}
use Rattle.std.specs.List.{list_all}
use Rattle.std.proofs.lemmas.Bool.{and_parts}
use Rattle.std.proofs.lemmas.List.{places, same_lists}
use Rattle.std.proofs.lemmas.List.Sums.{sum_by-cons}
use Rattle.bit_addressing_memory.specs.Memory.{piece, with_piece}
use Rattle.bit_table_layout.specs.declared.layout.Rule.{Rule}
use Rattle.bit_table_layout.specs.Fields.{FieldShape, is_field, takes}
use Rattle.bit_table_layout.specs.Layouts.{row_width}
use Rattle.bit_table_layout.specs.Readings.{number_from, numbers_from}
use Rattle.bit_table_layout.specs.Rows.{field_bits}
use Rattle.bit_table_layout.proofs.ReadingLemmas.{length-field_bits, number_from-field_bits}

-- ---- lists

-- what is written behind the first w bits, and what is written first
front_kept : (xs ys : List Bool) (w a : ℕ) → w + a + length ys ≤ length xs
    → take w (with_piece xs (w + a) ys) ≡ take w xs
unfolding with_piece
front_kept xs ys w a fits = same_lists _ _ (grind (arith, places)) (λ k d h. grind (arith, places))

rest_written : (xs ys : List Bool) (w a : ℕ) → w + a + length ys ≤ length xs
    → drop w (with_piece xs (w + a) ys) ≡ with_piece (drop w xs) a ys
unfolding with_piece
rest_written xs ys w a fits = same_lists _ _ (grind (arith, places)) (λ k d h. grind (arith, places))

pub front_written : (xs ys : List Bool) (w : ℕ) → length ys ≡ w → w ≤ length xs → take w (with_piece xs 0 ys) ≡ ys
unfolding with_piece
front_written xs ys w size fits = same_lists _ _ (grind (arith, places)) (λ k d h. grind (arith, places))

rest_kept : (xs ys : List Bool) (w : ℕ) → length ys ≡ w → w ≤ length xs → drop w (with_piece xs 0 ys) ≡ drop w xs
unfolding with_piece
rest_kept xs ys w size fits = same_lists _ _ (grind (arith, places)) (λ k d h. grind (arith, places))

-- what is written inside a piece, written in the whole
pub written_inside : (xs ys : List Bool) (a w b : ℕ) → a + w ≤ length xs → b + length ys ≤ w
    → with_piece xs (a + b) ys ≡ with_piece xs a (with_piece (piece xs a w) b ys)
unfolding piece with_piece
written_inside xs ys a w b fits inside = same_lists _ _ (grind (arith, places)) (λ k d h. grind (arith, places))

-- the element in front of the rest
pub get_in_front : {X : Type 0} (xs : List X) (p : ℕ) (x : X) (rest : List X) → drop p xs ≡ x ∷ rest
    → slice_get xs p ≡ Some x
get_in_front [] zero x rest is = cc
get_in_front [] (suc p) x rest is = cc
get_in_front (y ∷ ys) zero x rest is = cc
get_in_front (y ∷ ys) (suc p) x rest is = get_in_front ys p x rest is

-- ---- numbers

row_width-cons : (f : FieldShape) (fs : List FieldShape) → row_width (f ∷ fs) ≡ f.width + row_width fs
row_width-cons f fs = sum_by-cons (λ g. g.width) f fs

-- a field ends among the bits of its row
pub field_inside : (fs : List FieldShape) (i : ℕ) (f : FieldShape) → slice_get fs i ≡ Some f
    → row_width (take i fs) + f.width ≤ row_width fs
field_inside [] i f is = cc
field_inside (g ∷ fs) zero f is =
    let same : g ≡ f = cc in
    let width : g.width ≡ f.width = ap (λ (h : FieldShape). h.width) same in
    let whole = row_width-cons g fs in
    omega arith
field_inside (g ∷ fs) (suc i) f is =
    let whole = row_width-cons g fs in
    let before = row_width-cons g (take i fs) in
    omega (arith, field_inside fs i f is)

-- number i of a row's bits written over is number i of the row, and no other is
pub number_written : (rule : Rule) (fs : List FieldShape) (i : ℕ) (f : FieldShape) (v : ℤ) (bits : List Bool)
    → list_all is_field fs ≡ true → length bits ≡ row_width fs → slice_get fs i ≡ Some f → takes f v ≡ true
    → numbers_from rule fs (with_piece bits (row_width (take i fs)) (field_bits rule f.width v))
    ≡ set (numbers_from rule fs bits) i v
number_written rule [] i f v bits lawful size is fits = cc
number_written rule (g ∷ fs) zero f v bits lawful size is fits =
    let fields = and_parts (is_field g) (list_all is_field fs) lawful in
    let same : g ≡ f = cc in
    let long : length (field_bits rule f.width v) ≡ g.width =
    length-field_bits rule f.width v ∙ ap (λ (h : FieldShape). h.width) (sym same) in
    let whole = row_width-cons g fs in
    ap₂ (λ x xs. number_from rule g x ∷ numbers_from rule fs xs)
    (front_written bits (field_bits rule f.width v) g.width long (omega arith))
    (rest_kept bits (field_bits rule f.width v) g.width long (omega arith))
    ∙ ap (λ x. x ∷ numbers_from rule fs (drop g.width bits))
    (ap (λ h. number_from rule h (field_bits rule f.width v)) same
    ∙ number_from-field_bits rule f v (ap is_field (sym same) ∙ fields.0) fits)
number_written rule (g ∷ fs) (suc i) f v bits lawful size is fits =
    let fields = and_parts (is_field g) (list_all is_field fs) lawful in
    let ys = field_bits rule f.width v in
    let whole = row_width-cons g fs in
    let before = row_width-cons g (take i fs) in
    let long = length-field_bits rule f.width v in
    let inside = field_inside fs i f is in
    let room : g.width + row_width (take i fs) + length ys ≤ length bits = omega arith in
    let rest : length (drop g.width bits) ≡ row_width fs = length-drop g.width bits ∙ omega arith in
    ap (λ a. numbers_from rule (g ∷ fs) (with_piece bits a ys)) before
    ∙ ap₂ (λ x xs. number_from rule g x ∷ numbers_from rule fs xs)
    (front_kept bits ys g.width (row_width (take i fs)) room)
    (rest_written bits ys g.width (row_width (take i fs)) room)
    ∙ ap (λ xs. number_from rule g (take g.width bits) ∷ xs)
    (number_written rule fs i f v (drop g.width bits) fields.1 rest is fits)

-- What an edit of a table's bits makes of its rows: the same edit of the list of rows. The rows are those of a layout,
-- `rows_from l n bits`, of as many bits as n rows have.
--
-- Any of the edits below: `rows_after_edit`. More and fewer: `rows_after_insert`, `rows_after_delete`, `rows_after_dup`. As many: `rows_after_copy`,
-- `rows_after_swap`, `rows_after_rotate`, `rows_after_set`. One row read: `row_read`. Where a number lies:
-- `number_within`. The bits of a row stored in front of others: `row_stored`.
use Rattle.std.proofs.Common.{◌≡◌, ℕ, suc, ◌+◌, ◌-◌, ◌*◌, ◌<◌, ◌≤◌, Bool, true, List, [], ◌∷◌, ◌++◌, ℤ, length}
use Rattle.std.proofs.Common.{take, drop, map, set, sym, ap, ap₂, ◌∙◌, arith, append_assoc}
use Rattle.std.specs.Prelude.{Some, slice_get, slice_range}
use Rattle.std.specs.List.{swap}
use Rattle.std.proofs.lemmas.List.{take_all}
use Rattle.bit_addressing_memory.specs.Memory.{piece, with_piece}
use Rattle.bit_addressing_memory.proofs.MemoryLemmas.{length-piece, length-with_piece}
use Rattle.bit_table_layout.specs.Fields.{FieldShape, takes}
use Rattle.bit_table_layout.specs.Layouts.{LayoutShape, is_layout, row_width}
use Rattle.bit_table_layout.specs.Readings.{numbers_from, rows_from}
use Rattle.bit_table_layout.specs.Rows.{Row, new_row, take_all as takes_all, field_bits, numbers_bits}
use Rattle.bit_table_layout.proofs.ReadingLemmas.{length-field_bits, length-numbers_bits}
use Rattle.bit_table_layout.proofs.RowLemmas.{fields_lawful, length-rows_from, rows_from-append, rows_from-insert}
use Rattle.bit_table_rows.specs.RowEdits.{inserted, deleted, repeated, copied, exchanged, turned}
use Rattle.bit_table_rows.specs.declared.edit.RowEdit.{RowEdit}
use Rattle.bit_table_rows.specs.declared.edit.RowEdit.TheVariants.{Insert, Delete, Copy, Swap, Rotate, Dup}
use Rattle.bit_table_rows.specs.RowEdit.{bits_edited_by, count_after, edited_by, LiesIn, WhereNew}
use Rattle.bit_table_rows.specs.RowLists.{CutsRows}
use Rattle.bit_table_rows.proofs.PlaceLemmas.{place_end}
use Rattle.bit_table_rows.proofs.RowListLemmas.{rows_deleted, rows_repeated, rows_written, rows_copied}
use Rattle.bit_table_rows.proofs.RowListLemmas.{rows_exchanged, exchanged_one, rows_turned, rows_behind, row_alone}
pub use Rattle.bit_table_rows.proofs.NumberLemmas.{field_inside}
use Rattle.bit_table_rows.proofs.NumberLemmas.{front_written, get_in_front, number_written, written_inside}

-- the rows of a layout are cut out of their bits
pub numbers_as_rows : (l : LayoutShape) → CutsRows (row_width l.fields) (rows_from l)
numbers_as_rows l = record {
  count = λ n bits all. length-rows_from l n bits;
  joined = λ m n xs ys first rest. rows_from-append l m n xs ys first;
}

-- a row stored in front of other bits, and read there
pub row_stored : (l : LayoutShape) (bits : List Bool) (vs : List ℤ) → takes_all l.fields vs ≡ true
    → row_width l.fields ≤ length bits
    → piece (with_piece bits 0 (numbers_bits l.rule l.fields vs)) 0 (row_width l.fields)
    ≡ numbers_bits l.rule l.fields vs
unfolding piece
row_stored l bits vs fits room =
    front_written bits (numbers_bits l.rule l.fields vs) (row_width l.fields)
    (length-numbers_bits l.rule l.fields vs fits)
    room

module _ (l : LayoutShape) (n : ℕ) (bits : List Bool) (all : length bits ≡ n * row_width l.fields) where
  -- how many bits a row has
  abbrev w : ℕ
  w = row_width l.fields

  abbrev rows : List Row
  rows = rows_from l n bits

  -- a row of these numbers put in before row p
  pub rows_after_insert : (p : ℕ) (vs : List ℤ) → is_layout l ≡ true → takes_all l.fields vs ≡ true → p ≤ n
      → rows_from l (n + 1) (inserted bits (p * w) (numbers_bits l.rule l.fields vs))
      ≡ take p rows ++ (new_row vs ∷ drop p rows)
  rows_after_insert p vs lawful fits within = rows_from-insert l n p bits vs lawful fits within all

  -- the rows from p up to before q taken out
  pub rows_after_delete : (p q : ℕ) → p ≤ q → q ≤ n
      → rows_from l (n - (q - p)) (deleted bits (p * w) (q * w)) ≡ take p rows ++ drop q rows
  rows_after_delete p q order within =
      rows_deleted w (rows_from l) (numbers_as_rows l) n p q bits order within all

  -- the rows from p up to before q once more
  pub rows_after_dup : (p q : ℕ) → p ≤ q → q ≤ n
      → rows_from l (n + (q - p)) (repeated bits (p * w) (q * w)) ≡ rows ++ slice_range rows p q
  rows_after_dup p q order within =
      rows_repeated w (rows_from l) (numbers_as_rows l) n p q bits order within all

  -- the rows from p up to before q, as they were, over those from r on
  pub rows_after_copy : (p q r : ℕ) → p ≤ q → q ≤ n → r + (q - p) ≤ n
      → rows_from l n (copied bits (p * w) (q * w) (r * w))
      ≡ take r rows ++ (slice_range rows p q ++ drop (r + (q - p)) rows)
  rows_after_copy p q r order within target =
      rows_copied w (rows_from l) (numbers_as_rows l) n p q r bits order within target all

  -- rows p and q exchanged
  pub rows_after_swap : (p q : ℕ) → p < n → q < n
      → rows_from l n (exchanged bits (p * w) (q * w) w) ≡ swap rows p q
  rows_after_swap p q first second =
      let size = length-rows_from l n bits in
      rows_exchanged w (rows_from l) (numbers_as_rows l) n p q bits (omega arith) (omega arith) all
      ∙ exchanged_one rows p q (omega arith) (omega arith)

  -- the rows from p up to before q turned by k rows
  pub rows_after_rotate : (p q k : ℕ) → p + k ≤ q → q ≤ n
      → rows_from l n (turned bits (p * w) (q * w) (k * w))
      ≡ take p rows ++ (slice_range rows (p + k) q ++ (slice_range rows p (p + k) ++ drop q rows))
  rows_after_rotate p q k most within =
      rows_turned w (rows_from l) (numbers_as_rows l) n p q k bits most within all

  -- the rows after any of these edits, where ys are the bits of a new row of the numbers vs
  pub rows_after_edit : (e : RowEdit) (vs : List ℤ) (ys : List Bool) → is_layout l ≡ true → LiesIn n e
      → WhereNew e (takes_all l.fields vs ≡ true) → WhereNew e (ys ≡ numbers_bits l.rule l.fields vs)
      → rows_from l (count_after n e) (bits_edited_by w ys e bits) ≡ edited_by (new_row vs) e rows
  rows_after_edit (Insert p) vs ys lawful within fits are =
      let count : n + 1 - 0 ≡ n + 1 = omega arith in
      ap₂ (λ k xs. rows_from l k (inserted bits (p * w) xs)) count are ∙ rows_after_insert p vs lawful fits within
  rows_after_edit (Delete p q) vs ys lawful within fits are =
      let count : n + 0 - (q - p) ≡ n - (q - p) = omega arith in
      ap (λ k. rows_from l k (deleted bits (p * w) (q * w))) count ∙ rows_after_delete p q within.0 within.1
  rows_after_edit (Copy p q r) vs ys lawful within fits are =
      let count : n + 0 - 0 ≡ n = omega arith in
      ap (λ k. rows_from l k (copied bits (p * w) (q * w) (r * w))) count
      ∙ rows_after_copy p q r within.0 within.1 within.2
  rows_after_edit (Swap p q) vs ys lawful within fits are =
      let count : n + 0 - 0 ≡ n = omega arith in
      ap (λ k. rows_from l k (exchanged bits (p * w) (q * w) w)) count ∙ rows_after_swap p q within.0 within.1
  rows_after_edit (Rotate p q k) vs ys lawful within fits are =
      let count : n + 0 - 0 ≡ n = omega arith in
      ap (λ m. rows_from l m (turned bits (p * w) (q * w) (k * w))) count
      ∙ rows_after_rotate p q k (omega (arith, within.0, within.2)) within.1
  rows_after_edit (Dup p q) vs ys lawful within fits are =
      let count : n + (q - p) - 0 ≡ n + (q - p) = omega arith in
      ap (λ k. rows_from l k (repeated bits (p * w) (q * w))) count ∙ rows_after_dup p q within.0 within.1

  -- row p read
  pub row_read : (p : ℕ) → p < n
      → slice_get rows p ≡ Some (new_row (numbers_from l.rule l.fields (piece bits (p * w) w)))
  unfolding piece
  row_read p low =
      let m : ℕ = n - p - 1 in
      let count : n - p ≡ suc m = omega arith in
      get_in_front rows p (new_row (numbers_from l.rule l.fields (piece bits (p * w) w)))
      (rows_from l m (drop w (drop (p * w) bits)))
      (sym (rows_behind w (rows_from l) (numbers_as_rows l) n p bits (omega arith) all)
      ∙ ap (λ k. rows_from l k (drop (p * w) bits)) count)

  -- number f of row p lies among the bits
  pub number_within : (p f : ℕ) (field : FieldShape) → p < n → slice_get l.fields f ≡ Some field
      → p * w + row_width (take f l.fields) + field.width ≤ length bits
  number_within p f field low is = omega (arith, place_end p n w low, field_inside l.fields f field is)

  -- number f of row p made v
  pub rows_after_set : (p f : ℕ) (field : FieldShape) (v : ℤ) → is_layout l ≡ true → p < n
      → slice_get l.fields f ≡ Some field → takes field v ≡ true
      → rows_from l n (with_piece bits (p * w + row_width (take f l.fields)) (field_bits l.rule field.width v))
      ≡ take p rows
      ++ (map (λ (row : Row). record row { numbers = set row.numbers f v }) (slice_range rows p (p + 1))
      ++ drop (p + 1) rows)
  unfolding piece with_piece
  rows_after_set p f field v lawful low is fits =
      let row = piece bits (p * w) w in
      let ys = field_bits l.rule field.width v in
      let off : ℕ = row_width (take f l.fields) in
      let in_p : p * w + w ≤ length bits = omega (arith, place_end p n w low) in
      let size : length row ≡ w = length-piece bits (p * w) w in_p in
      let long : length ys ≡ field.width = length-field_bits l.rule field.width v in
      let inside : off + length ys ≤ w = omega (arith, field_inside l.fields f field is) in
      let now = with_piece row off ys in
      let still : length now ≡ w = length-with_piece row off ys (omega arith) ∙ size in
      let had = numbers_from l.rule l.fields row in
      let after : rows_from l 1 now ≡ new_row (set had f v) ∷ [] =
      ap (λ x. new_row (numbers_from l.rule l.fields x) ∷ []) (take_all w now (omega arith))
      ∙ ap (λ ns. new_row ns ∷ [])
      (number_written l.rule l.fields f field v row (fields_lawful l lawful) size is fits) in
      let one : p + 1 - p ≡ 1 = omega arith in
      let before : slice_range rows p (p + 1) ≡ new_row had ∷ [] =
      ap (λ k. take k (drop p rows)) one
      ∙ sym (row_alone w (rows_from l) (numbers_as_rows l) n p bits (omega arith) all)
      ∙ ap (λ x. new_row (numbers_from l.rule l.fields x) ∷ []) (take_all w row (omega arith)) in
      ap (rows_from l n) (written_inside bits ys (p * w) w off in_p inside)
      ∙ rows_written w (rows_from l) (numbers_as_rows l) n p 1 bits now (omega arith) all (still ∙ omega arith)
      ∙ ap (with_piece rows p) after
      ∙ append_assoc (take p rows) (new_row (set had f v) ∷ []) (drop (p + 1) rows)
      ∙ ap (λ (part : List Row). take p rows
      ++ (map (λ (row : Row). record row { numbers = set row.numbers f v }) part ++ drop (p + 1) rows)) (sym before)

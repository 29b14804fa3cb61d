-- Rows as bits give them back.
use Rattle.std.proofs.Common.{◌≡◌, ℕ, zero, suc, ◌+◌, ◌-◌, ◌*◌, ◌≤◌, Bool, true, ◌&&◌, List, [], ◌∷◌, ◌++◌}
use Rattle.std.proofs.Common.{length, take, drop, ℤ, refl, sym, ap, ap₂, ◌∙◌, arith}
use Rattle.std.proofs.Common.{length-append, length-drop, length-take-le, take_at}
use Rattle.std.proofs.Common.{drop_at, take-append-drop, mul-le-mul_right, leb-true}
use Rattle.std.specs.Prelude.{nat_le}
use Rattle.std.specs.List.{list_all}
use Rattle.std.proofs.lemmas.Bool.{and_parts, and_from}
use Rattle.std.proofs.lemmas.List.{nil_from_length, take-append-le, drop-append-le, take_all, take-take, drop-take}
use Rattle.bit_table_layout.specs.declared.layout.TheConstants.{MAX_ROW_BITS}
use Rattle.bit_table_layout.specs.Layouts.{LayoutShape, is_layout, names_differ, row_width}
use Rattle.bit_table_layout.specs.Fields.{is_field}
use Rattle.bit_table_layout.specs.Rows.{Row, new_row, take_all as takes_all, is_row, are_rows}
use Rattle.bit_table_layout.specs.Rows.{numbers_bits, row_bits, table_bits, all_numbers}
use Rattle.bit_table_layout.specs.Readings.{numbers_from, rows_from}
use Rattle.bit_table_layout.proofs.ReadingLemmas.{length-numbers_bits, numbers_from-numbers_bits}
use Rattle.bit_table_layout.proofs.ReadingLemmas.{numbers_bits-numbers_from, take_all-numbers_from}

-- ---- layouts

pub fields_lawful : (l : LayoutShape) → is_layout l ≡ true → list_all is_field l.fields ≡ true
fields_lawful l h =
    let w = row_width l.fields in
    (and_parts (list_all is_field l.fields) (names_differ l.fields && (nat_le 1 w && nat_le w MAX_ROW_BITS)) h).0

pub some_row_bits : (l : LayoutShape) → is_layout l ≡ true → 1 ≤ row_width l.fields
some_row_bits l h =
    let w = row_width l.fields in
    let rest =
    and_parts (list_all is_field l.fields) (names_differ l.fields && (nat_le 1 w && nat_le w MAX_ROW_BITS)) h in
    let widths = and_parts (names_differ l.fields) (nat_le 1 w && nat_le w MAX_ROW_BITS) rest.1 in
    leb-true 1 w (and_parts (nat_le 1 w) (nat_le w MAX_ROW_BITS) widths.1).0

-- ---- the bits of rows

pub length-row_bits : (l : LayoutShape) (row : Row) → is_row l row ≡ true
    → length (row_bits l row) ≡ row_width l.fields
length-row_bits l row h = length-numbers_bits l.rule l.fields row.numbers h

pub length-table_bits : (l : LayoutShape) (rows : List Row) → are_rows l rows ≡ true
    → length (table_bits l rows) ≡ length rows * row_width l.fields
length-table_bits l [] h = omega arith
length-table_bits l (row ∷ rows) h =
    let both = and_parts (is_row l row) (are_rows l rows) h in
    let one = length-row_bits l row both.0 in
    let others = length-table_bits l rows both.1 in
    length-append (row_bits l row) (table_bits l rows) ∙ omega arith

-- ---- rows from bits

-- the first of so many rows' bits, and the others'
first_row : (w n : ℕ) (bits : List Bool) → length bits ≡ suc n * w → length (take w bits) ≡ w
first_row w n bits e = length-take-le w bits (omega arith)

other_rows : (w n : ℕ) (bits : List Bool) → length bits ≡ suc n * w → length (drop w bits) ≡ n * w
other_rows w n bits e = length-drop w bits ∙ omega arith

pub length-rows_from : (l : LayoutShape) (n : ℕ) (bits : List Bool) → length (rows_from l n bits) ≡ n
length-rows_from l zero bits = refl
length-rows_from l (suc n) bits = ap suc (length-rows_from l n (drop (row_width l.fields) bits))

pub are_rows-rows_from : (l : LayoutShape) (n : ℕ) (bits : List Bool) → is_layout l ≡ true
    → are_rows l (rows_from l n bits) ≡ true
are_rows-rows_from l zero bits lawful = refl
are_rows-rows_from l (suc n) bits lawful =
    let w = row_width l.fields in
    let row = new_row (numbers_from l.rule l.fields (take w bits)) in
    and_from (is_row l row) (are_rows l (rows_from l n (drop w bits)))
    (take_all-numbers_from l.rule l.fields (take w bits) (fields_lawful l lawful))
    (are_rows-rows_from l n (drop w bits) lawful)

-- the bits past the rows are not read
pub rows_from-take : (l : LayoutShape) (n : ℕ) (bits : List Bool)
    → rows_from l n (take (n * row_width l.fields) bits) ≡ rows_from l n bits
rows_from-take l zero bits = refl
rows_from-take l (suc n) bits =
    let w = row_width l.fields in
    let size : suc n * w ≡ w + n * w = omega arith in
    let first : take w (take (suc n * w) bits) ≡ take w bits = take-take w (suc n * w) bits (omega arith) in
    let others : drop w (take (suc n * w) bits) ≡ take (n * w) (drop w bits) =
    ap (λ m. drop w (take m bits)) size ∙ drop-take w (n * w) bits in
    ap₂ (λ x xs. new_row (numbers_from l.rule l.fields x) ∷ rows_from l n xs) first others
    ∙ ap (λ rest. new_row (numbers_from l.rule l.fields (take w bits)) ∷ rest) (rows_from-take l n (drop w bits))

pub table_bits-rows_from : (l : LayoutShape) (n : ℕ) (bits : List Bool) → length bits ≡ n * row_width l.fields
    → table_bits l (rows_from l n bits) ≡ bits
table_bits-rows_from l zero bits e = sym (nil_from_length bits (omega arith))
table_bits-rows_from l (suc n) bits e =
    let w = row_width l.fields in
    ap₂ (λ x xs. x ++ xs) (numbers_bits-numbers_from l.rule l.fields (take w bits) (first_row w n bits e))
    (table_bits-rows_from l n (drop w bits) (other_rows w n bits e))
    ∙ take-append-drop w bits

pub rows_from-table_bits : (l : LayoutShape) (rows : List Row) → is_layout l ≡ true → are_rows l rows ≡ true
    → all_numbers (rows_from l (length rows) (table_bits l rows)) ≡ all_numbers rows
rows_from-table_bits l [] lawful h = refl
rows_from-table_bits l (row ∷ rows) lawful h =
    let both = and_parts (is_row l row) (are_rows l rows) h in
    let w = row_width l.fields in
    let long = length-row_bits l row both.0 in
    let first = take_at (row_bits l row) (table_bits l rows) w long in
    let others = drop_at (row_bits l row) (table_bits l rows) w long in
    ap₂ (λ x xs. numbers_from l.rule l.fields x ∷ all_numbers (rows_from l (length rows) xs)) first others
    ∙ ap₂ (λ x xs. x ∷ xs) (numbers_from-numbers_bits l.rule l.fields row.numbers (fields_lawful l lawful) both.0)
    (rows_from-table_bits l rows lawful both.1)

pub rows_from-append : (l : LayoutShape) (m n : ℕ) (xs ys : List Bool) → length xs ≡ m * row_width l.fields
    → rows_from l (m + n) (xs ++ ys) ≡ rows_from l m xs ++ rows_from l n ys
rows_from-append l zero n xs ys e =
    let none : xs ≡ [] = nil_from_length xs (omega arith) in
    let count : 0 + n ≡ n = omega arith in
    ap₂ (λ k bits. rows_from l k (bits ++ ys)) count none
rows_from-append l (suc m) n xs ys e =
    let w = row_width l.fields in
    let count : suc m + n ≡ suc (m + n) = omega arith in
    let enough : w ≤ length xs = omega arith in
    let row = λ (bits : List Bool). new_row (numbers_from l.rule l.fields bits) in
    ap (λ k. rows_from l k (xs ++ ys)) count
    ∙ ap₂ (λ x rest. row x ∷ rows_from l (m + n) rest) (take-append-le w xs ys enough)
    (drop-append-le w xs ys enough)
    ∙ ap (λ rest. row (take w xs) ∷ rest) (rows_from-append l m n (drop w xs) ys (other_rows w m xs e))

-- the bits of one row give that row
one_row : (l : LayoutShape) (vs : List ℤ) → is_layout l ≡ true → takes_all l.fields vs ≡ true
    → rows_from l 1 (numbers_bits l.rule l.fields vs) ≡ new_row vs ∷ []
one_row l vs lawful h =
    let w = row_width l.fields in
    let bits = numbers_bits l.rule l.fields vs in
    let whole : take w bits ≡ bits = take_all w bits (omega (arith, length-numbers_bits l.rule l.fields vs h)) in
    ap (λ x. new_row (numbers_from l.rule l.fields x) ∷ []) whole
    ∙ ap (λ xs. new_row xs ∷ []) (numbers_from-numbers_bits l.rule l.fields vs (fields_lawful l lawful) h)

-- the rows before a place, and those from it on
rows_from-split : (l : LayoutShape) (n p : ℕ) (bits : List Bool) → p ≤ n → length bits ≡ n * row_width l.fields
    → rows_from l n bits
    ≡ rows_from l p (take (p * row_width l.fields) bits) ++ rows_from l (n - p) (drop (p * row_width l.fields) bits)
rows_from-split l n p bits h e =
    let cut = p * row_width l.fields in
    let count : n ≡ p + (n - p) = omega arith in
    let inside : cut ≤ length bits = omega (arith, mul-le-mul_right (row_width l.fields) h) in
    ap₂ (rows_from l) count (sym (take-append-drop cut bits))
    ∙ rows_from-append l p (n - p) (take cut bits) (drop cut bits) (length-take-le cut bits inside)

pub take-rows_from : (l : LayoutShape) (n p : ℕ) (bits : List Bool) → p ≤ n → length bits ≡ n * row_width l.fields
    → take p (rows_from l n bits) ≡ rows_from l p (take (p * row_width l.fields) bits)
take-rows_from l n p bits h e =
    let before = take (p * row_width l.fields) bits in
    let others = rows_from l (n - p) (drop (p * row_width l.fields) bits) in
    ap (take p) (rows_from-split l n p bits h e)
    ∙ take_at (rows_from l p before) others p (length-rows_from l p before)

pub drop-rows_from : (l : LayoutShape) (n p : ℕ) (bits : List Bool) → p ≤ n → length bits ≡ n * row_width l.fields
    → drop p (rows_from l n bits) ≡ rows_from l (n - p) (drop (p * row_width l.fields) bits)
drop-rows_from l n p bits h e =
    let before = take (p * row_width l.fields) bits in
    let others = rows_from l (n - p) (drop (p * row_width l.fields) bits) in
    ap (drop p) (rows_from-split l n p bits h e)
    ∙ drop_at (rows_from l p before) others p (length-rows_from l p before)

pub rows_from-insert : (l : LayoutShape) (n p : ℕ) (bits : List Bool) (vs : List ℤ) → is_layout l ≡ true
    → takes_all l.fields vs ≡ true → p ≤ n → length bits ≡ n * row_width l.fields
    → rows_from l (n + 1)
    (take (p * row_width l.fields) bits ++ (numbers_bits l.rule l.fields vs ++ drop (p * row_width l.fields) bits))
    ≡ take p (rows_from l n bits) ++ new_row vs ∷ drop p (rows_from l n bits)
rows_from-insert l n p bits vs lawful fits h e =
    let w = row_width l.fields in
    let new = numbers_bits l.rule l.fields vs in
    let before = take (p * w) bits in
    let after = drop (p * w) bits in
    let count : n + 1 ≡ p + (1 + (n - p)) = omega arith in
    let inside : p * w ≤ length bits = omega (arith, mul-le-mul_right w h) in
    let one : length new ≡ 1 * w = length-numbers_bits l.rule l.fields vs fits ∙ omega arith in
    ap (λ k. rows_from l k (before ++ (new ++ after))) count
    ∙ rows_from-append l p (1 + (n - p)) before (new ++ after) (length-take-le (p * w) bits inside)
    ∙ ap₂ (λ xs ys. xs ++ ys) (sym (take-rows_from l n p bits h e))
    (rows_from-append l 1 (n - p) new after one
    ∙ ap₂ (λ xs ys. xs ++ ys) (one_row l vs lawful fits) (sym (drop-rows_from l n p bits h e)))

-- Commands that no cause refuses.
--
-- In any table: `not-accepted`, `count-accepted`, `list-accepted`. In some: `get-accepted`, `delete-accepted`,
-- `mark-accepted`, `load-accepted`. An insertion that goes in one table goes in another: `insert-same`, and in one that
-- keeps rows: `insert-unkept`. What holds once a command was carried out: `carried_out`.
use Rattle.std.proofs.Common.{◌≡◌, ℕ, ◌+◌, ◌*◌, ◌<◌, ◌≤◌, ℤ, List, length, nat_lt, false, true, get_or, Option, None}
use Rattle.std.proofs.Common.{refl, sym, ap, ◌∙◌, arith, length-append}
use Rattle.std.specs.Prelude.{Some, Result, Ok, Err, IsOk, OnOk}
use Rattle.std.proofs.lemmas.Bool.Decides.{nat_tests}
use Rattle.std.proofs.lemmas.List.{length-take, length-drop}
use Rattle.std.proofs.lemmas.Option.{slice_get-get_or}
use Rattle.bit_table_layout.specs.declared.cause.Cause.{Cause}
use Rattle.bit_table_layout.specs.declared.layout.TheConstants.{MAX_BITS}
use Rattle.bit_table_layout.specs.Fields.{FieldShape, takes}
use Rattle.bit_table_layout.specs.Images.{image_bytes}
use Rattle.bit_table_layout.specs.Layouts.{LayoutShape, row_width}
use Rattle.bit_table_layout.specs.Rows.{Row}
use Rattle.bit_table_layout.proofs.LoadLemmas.{loads_take_images}
use Rattle.bit_table_commands.specs.declared.command.Command.TheVariants.{Insert, Delete, Get, Load, Mark, Not, Count}
use Rattle.bit_table_commands.specs.declared.command.Command.TheVariants.{List as Listing}
use Rattle.bit_table_commands.specs.declared.test.Test.{Test}
use Rattle.bit_table_commands.specs.Causes.{cause_in, wrong_form, wrong_row, wrong_value}
use Rattle.bit_table_commands.specs.Edits.{edited}
use Rattle.bit_table_commands.specs.Tables.{TableShape, IsTable, IsTableOf, new_table}
use Rattle.bit_table_commands.proofs.CauseLemmas.{cause_in-conditions, conditions-of, full-count}

-- rows that are there are not too many
fits : (t : TableShape) → IsTable t → nat_lt MAX_BITS (length t.rows * row_width t.layout.fields) ≡ false
fits t lawful = let room = lawful.rows.room in grind (arith, nat_tests)

pub not-accepted : (t : TableShape) (x : ℕ) → IsTable t → cause_in t (Not x) ≡ None
not-accepted t x lawful =
    cause_in-conditions t (Not x) false false false false false false false (record {
      form_is = refl;
      field_is = refl;
      row_is = refl;
      value_is = refl;
      full_is = full-count t (Not x) lawful tt ∙ fits t lawful;
      image_is = refl;
      kept_is = refl;
    })

pub count-accepted : (t : TableShape) (x : ℕ) → IsTable t → cause_in t (Count x) ≡ None
count-accepted t x lawful =
    cause_in-conditions t (Count x) false false false false false false false (record {
      form_is = refl;
      field_is = refl;
      row_is = refl;
      value_is = refl;
      full_is = fits t lawful;
      image_is = refl;
      kept_is = refl;
    })

pub list-accepted : (t : TableShape) (x : ℕ) → IsTable t → cause_in t (Listing x) ≡ None
list-accepted t x lawful =
    cause_in-conditions t (Listing x) false false false false false false false (record {
      form_is = refl;
      field_is = refl;
      row_is = refl;
      value_is = refl;
      full_is = fits t lawful;
      image_is = refl;
      kept_is = refl;
    })

-- a row that is there
pub get-accepted : (t : TableShape) (p : ℕ) → IsTable t → p < length t.rows → cause_in t (Get p) ≡ None
get-accepted t p lawful low =
    cause_in-conditions t (Get p) false false false false false false false (record {
      form_is = refl;
      field_is = refl;
      row_is = grind (arith, nat_tests);
      value_is = refl;
      full_is = fits t lawful;
      image_is = refl;
      kept_is = refl;
    })

-- rows that are there
pub delete-accepted : (t : TableShape) (p q : ℕ) → IsTable t → p ≤ q → q ≤ length t.rows
    → cause_in t (Delete p q) ≡ None
delete-accepted t p q lawful from upto =
    cause_in-conditions t (Delete p q) false false false false false false false (record {
      form_is = refl;
      field_is = refl;
      row_is = grind (arith, nat_tests);
      value_is = refl;
      full_is = full-count t (Delete p q) lawful (from, upto) ∙ fits t lawful;
      image_is = refl;
      kept_is = refl;
    })

-- a field that takes the value
pub mark-accepted : (t : TableShape) (x f : ℕ) (test : Test) (v : ℤ) (d : FieldShape) → IsTable t
    → f < length t.layout.fields → takes (get_or t.layout.fields f d) v ≡ true
    → cause_in t (Mark x (Some f) test v) ≡ None
mark-accepted t x f test v d lawful inside taken =
    let there = slice_get-get_or t.layout.fields f d inside in
    cause_in-conditions t (Mark x (Some f) test v) false false false false false false false (record {
      form_is = refl;
      field_is = rw there refl;
      row_is = refl;
      value_is = rw (there, taken) refl;
      full_is = full-count t (Mark x (Some f) test v) lawful tt ∙ fits t lawful;
      image_is = refl;
      kept_is = refl;
    })

-- a new table takes the image of another of its layout
pub load-accepted : (t : TableShape) → IsTable t
    → cause_in (new_table t.layout) (Load (length t.rows) (image_bytes t.layout t.rows)) ≡ None
load-accepted t lawful =
    let new = new_table t.layout in
    let n = length t.rows in
    let bytes = image_bytes t.layout t.rows in
    let is = (loads_take_images t.layout lawful.layout n bytes).1 (t.rows, lawful.rows.lawful, refl, refl) in
    let empty : IsTable new = record {
      layout = lawful.layout;
      rows = record { lawful = refl; room = omega arith };
      kept = tt;
    } in
    cause_in-conditions new (Load n bytes) false false false false false false false (record {
      form_is = refl;
      field_is = refl;
      row_is = refl;
      value_is = refl;
      full_is = full-count new (Load n bytes) empty tt ∙ fits t lawful;
      image_is = rw is refl;
      kept_is = refl;
    })

length-inserted : (rows : List Row) (p : ℕ) (vs : List ℤ) → length (edited rows (Insert p vs)) ≡ length rows + 1
length-inserted rows p vs = simp (length-append, length-take, length-drop) (omega arith)

-- an insertion is refused in one table as in another of the same layout with as many rows
pub insert-same : (one other : TableShape) (p : ℕ) (vs : List ℤ) → one.layout ≡ other.layout
    → length one.rows ≡ length other.rows → cause_in one (Insert p vs) ≡ cause_in other (Insert p vs)
insert-same one other p vs layouts counts =
    let c = Insert p vs in
    let after : length (edited one.rows c) ≡ length (edited other.rows c) =
    length-inserted one.rows p vs ∙ ap (λ n. n + 1) counts ∙ sym (length-inserted other.rows p vs) in
    cause_in-conditions one c _ _ _ _ _ _ _ (record {
      form_is = ap (λ l. wrong_form l c) layouts;
      field_is = refl;
      row_is = ap (λ n. wrong_row n c) counts;
      value_is = ap (λ l. wrong_value l c) layouts;
      full_is = λ i. nat_lt MAX_BITS (after i * row_width (layouts i).fields);
      image_is = refl;
      kept_is = refl;
    })
    ∙ sym (cause_in-conditions other c _ _ _ _ _ _ _ (conditions-of other c))

-- where it is told no cause of such tables that keep nothing, none refuses it in one that keeps rows
pub insert-unkept : (t : TableShape) (l : LayoutShape) (n p : ℕ) (vs : List ℤ) (told : Option Cause) → IsTable t
    → l ≡ t.layout → n ≡ length t.rows → told ≡ None
    → ((u : TableShape) → IsTableOf l n false u → told ≡ cause_in u (Insert p vs)) → cause_in t (Insert p vs) ≡ None
insert-unkept t l n p vs told lawful layouts counts none tells =
    let unkept : TableShape = record { layout = t.layout; rows = t.rows; kept = None } in
    let is_one : IsTableOf l n false unkept = record {
      lawful = record { layout = lawful.layout; rows = lawful.rows; kept = tt };
      layout = sym layouts;
      count = sym counts;
      kept = refl;
    } in
    insert-same t unkept p vs refl refl ∙ sym (tells unkept is_one) ∙ none

pub carried_out : {T E : Type 0} {P : Type 0} (r : Result T E) → IsOk r → OnOk r P → P
carried_out (Ok x) done h = h
carried_out (Err e) done h = absurd cc

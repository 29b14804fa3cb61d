-- Which cause refuses a command, and what holds of a command that none refuses.
use Rattle.std.proofs.Common.{◌≡◌, ℕ, ◌+◌, ◌-◌, ◌*◌, ◌≤◌, ◌<◌, ◌==◌, ◌&&◌, not, nat_lt, nat_le, Bool, true, false}
use Rattle.std.proofs.Common.{ℤ, List}
use Rattle.std.proofs.Common.{[], ◌∷◌, length, Option, None, Some, refl, sym, ap, ap₂, ◌∙◌, arith}
use Rattle.std.proofs.Common.{length-append}
use Rattle.std.specs.Prelude.{slice_range, is_some, unwrap_or, IfSome, filter}
use Rattle.std.specs.Option.{option_map_or}
use Rattle.std.proofs.lemmas.Bool.Decides.{nat_tests}
use Rattle.std.proofs.lemmas.List.{length-take, length-drop, length-map}
use Rattle.std.proofs.lemmas.List.Edits.{length-swap}
use Rattle.std.proofs.lemmas.List.Sums.{length-filter, count_by-le-length}
use Rattle.std.proofs.Math.Nat.{mul-le-mul_right}
use Rattle.bit_table_layout.specs.declared.cause.Cause.{Cause}
use Rattle.bit_table_layout.specs.declared.cause.Cause.TheVariants as refusal
use Rattle.bit_table_layout.specs.declared.layout.TheConstants.{MAX_BITS}
use Rattle.bit_table_layout.specs.Fields.{FieldShape, takes}
use Rattle.bit_table_layout.specs.Layouts.{LayoutShape, row_width}
use Rattle.bit_table_layout.specs.Rows.{Row}
use Rattle.bit_table_layout.specs.Loads.{is_image}
use Rattle.bit_table_layout.proofs.LoadLemmas.{length-rows_in_bytes}
use Rattle.bit_table_layout.specs.Letters.{combined}
use Rattle.bit_table_commands.specs.declared.command.Command.{Command}
use Rattle.bit_table_commands.specs.declared.command.Command.TheVariants.{Insert, Delete, Set, Get, Copy, Swap, Rotate}
use Rattle.bit_table_commands.specs.declared.command.Command.TheVariants.{Dup, Load, Back, Mark, Combine, Not, Drop}
use Rattle.bit_table_commands.specs.Tables.{TableShape, AreHeld, IsTable, IsTableOf}
use Rattle.bit_table_commands.specs.Edits.{edited, edit}
use Rattle.bit_table_commands.specs.Causes.{cause_in, first_of, wrong_form, wrong_field, wrong_row, wrong_value}
use Rattle.bit_table_commands.specs.Causes.{too_full}
use Rattle.bit_table_commands.specs.Causes.{wrong_image, nothing_kept, is_in_range, is_taken, field_at}
use Rattle.bit_table_commands.specs.CauseSteps.{rows_counted, rows_loaded}
use Rattle.bit_table_commands.specs.Accepted.{IsInRange, IsAccepted, IsTaken, HasLawfulValues, HasImage, HasKept}
use Rattle.bit_table_commands.specs.Marks.{row_bears, passes, number_in_field}
use Rattle.bit_table_commands.proofs.MarkLemmas.{length-marked}

-- ---- the first condition that holds

-- the first cause, by the conditions that may hold
abbrev pub by_conditions : Bool → Bool → Bool → Bool → Bool → Bool → Bool → Option Cause
by_conditions form field row value full image kept =
    first_of ((form, refusal.Form) ∷ (field, refusal.Field) ∷ (row, refusal.Row) ∷ (value, refusal.Value)
    ∷ (full, refusal.Full) ∷ (image, refusal.Image) ∷ (kept, refusal.Kept) ∷ [])

-- the conditions of a command in a table
pub record HasConditions (t : TableShape) (c : Command) (form field row value full image kept : Bool) : Type 0 where
  pub form_is : wrong_form t.layout c ≡ form
  pub field_is : wrong_field t.layout c ≡ field
  pub row_is : wrong_row (length t.rows) c ≡ row
  pub value_is : wrong_value t.layout c ≡ value
  pub full_is : too_full t c ≡ full
  pub image_is : wrong_image t.layout c ≡ image
  pub kept_is : nothing_kept (is_some t.kept) c ≡ kept

pub cause_in-conditions : (t : TableShape) (c : Command) (form field row value full image kept : Bool)
    → HasConditions t c form field row value full image kept
    → cause_in t c ≡ by_conditions form field row value full image kept
unfolding cause_in
cause_in-conditions t c form field row value full image kept h =
    λ i. by_conditions (h.form_is i) (h.field_is i) (h.row_is i) (h.value_is i) (h.full_is i) (h.image_is i) (h.kept_is i)

-- a command has its conditions
pub conditions-of : (t : TableShape) (c : Command) → HasConditions t c (wrong_form t.layout c) (wrong_field t.layout c)
    (wrong_row (length t.rows) c) (wrong_value t.layout c) (too_full t c) (wrong_image t.layout c)
    (nothing_kept (is_some t.kept) c)
conditions-of t c = record {
  form_is = refl;
  field_is = refl;
  row_is = refl;
  value_is = refl;
  full_is = refl;
  image_is = refl;
  kept_is = refl;
}

-- none of these conditions holds
record HoldNone (form field row value full image kept : Bool) : Type 0 where
  form_is : form ≡ false
  field_is : field ≡ false
  row_is : row ≡ false
  value_is : value ≡ false
  full_is : full ≡ false
  image_is : image ≡ false
  kept_is : kept ≡ false

no_cause : (form field row value full image kept : Bool)
    → by_conditions form field row value full image kept ≡ None → HoldNone form field row value full image kept
no_cause true field row value full image kept e = cc
no_cause false true row value full image kept e = cc
no_cause false false true value full image kept e = cc
no_cause false false false true full image kept e = cc
no_cause false false false false true image kept e = cc
no_cause false false false false false true kept e = cc
no_cause false false false false false false true e = cc
no_cause false false false false false false false e = record {
  form_is = refl;
  field_is = refl;
  row_is = refl;
  value_is = refl;
  full_is = refl;
  image_is = refl;
  kept_is = refl;
}

-- ---- how many rows there are after a command

-- the rows from p up to before q
length-range : (rows : List Row) (p q : ℕ) → p ≤ q → q ≤ length rows → length (slice_range rows p q) ≡ q - p
length-range rows p q h k = simp (length-take, length-drop) (omega arith)

-- no more rows pass a test
length-passed : (test : Row → Bool) (rows : List Row) → length (filter test rows) ≤ length rows
length-passed test rows = omega (arith, length-filter test rows, count_by-le-length test rows)

-- no row is added
pub length-not_added : (rows : List Row) (c : Command) → IsInRange (length rows) c
    → rows_counted (length rows) c ≤ length rows
    → length (edited rows c) ≤ length rows
length-not_added rows (Insert p vs) h k = absurd (omega arith)
length-not_added rows (Delete p q) h k = simp (length-append, length-take, length-drop) (omega (arith, h.0, h.1))
length-not_added rows (Set p f v) h k = simp (length-append, length-take, length-drop, length-map) (omega arith)
length-not_added rows (Copy p q r) h k =
    simp (length-append, length-take, length-drop) (omega (arith, h.0, h.1, h.2))
length-not_added rows (Swap p q) h k = omega (arith, length-swap rows p q)
length-not_added rows (Rotate p q k) (a, b, d) e = simp (length-append, length-take, length-drop) (omega arith)
length-not_added rows (Dup p q) h k = simp (length-append, length-take, length-drop) (omega (arith, h.0, h.1))
length-not_added rows (Mark x f t v) h k =
    omega (arith, length-marked x (λ row. passes t (number_in_field f row) v) rows)
length-not_added rows (Combine op x y) h k =
    omega (arith, length-marked x (λ row. combined op (row_bears x row) (row_bears y row)) rows)
length-not_added rows (Not x) h k = omega (arith, length-marked x (λ row. not (row_bears x row)) rows)
length-not_added rows (Drop x) h k = length-passed (λ row. not (row_bears x row)) rows
length-not_added rows c h k = omega arith

-- where there are no more rows than before, they have room
full-not_more : (t : TableShape) (c : Command) → IsTable t → length (edit t c).rows ≤ length t.rows
    → too_full t c ≡ false
full-not_more t c h k =
    let more : length (edit t c).rows * row_width t.layout.fields ≤ length t.rows * row_width t.layout.fields =
    mul-le-mul_right (row_width t.layout.fields) k in
    let room = h.rows.room in
    grind (arith, nat_tests)

-- the kept rows, or the others where none are kept
pub held-kept : (l : LayoutShape) (kept : Option (List Row)) (rows : List Row) → IfSome kept (AreHeld l)
    → AreHeld l rows → AreHeld l (unwrap_or kept rows)
held-kept l None rows h k = k
held-kept l (Some kept) rows h k = h

-- kept rows have room
full-back : (t : TableShape) → IsTable t → too_full t Back ≡ false
full-back t h = let room = (held-kept t.layout t.kept t.rows h.kept h.rows).room in grind (arith, nat_tests)

full-same : (t : TableShape) → IsTable t → nat_lt MAX_BITS (length t.rows * row_width t.layout.fields) ≡ false
full-same t h = let room = h.rows.room in grind (arith, nat_tests)

-- whether the rows after a command have room, by how many are counted
pub full-count : (t : TableShape) (c : Command) → IsTable t → IsInRange (length t.rows) c
    → too_full t c ≡ nat_lt MAX_BITS (rows_counted (length t.rows) c * row_width t.layout.fields)
full-count t (Insert p vs) h k =
    let count : length (edited t.rows (Insert p vs)) ≡ length t.rows + 1 =
    simp (length-append, length-take, length-drop) (omega arith) in
    ap (λ n. nat_lt MAX_BITS (n * row_width t.layout.fields)) count
full-count t (Dup p q) h (a, b) =
    let count : length (edited t.rows (Dup p q)) ≡ length t.rows + (q - p) =
    simp (length-append, length-take, length-drop) (omega arith) in
    ap (λ n. nat_lt MAX_BITS (n * row_width t.layout.fields)) count
full-count t (Load n bytes) h k =
    ap (λ m. nat_lt MAX_BITS (m * row_width t.layout.fields)) (length-rows_in_bytes t.layout n bytes)
full-count t Back h k = full-back t h ∙ sym (full-same t h)
full-count t c h k = full-not_more t c h (length-not_added t.rows c k (omega arith)) ∙ sym (full-same t h)

-- rows that are loaded are counted
pub loaded-counted : (n : ℕ) (c : Command) → rows_loaded c ≤ rows_counted n c
loaded-counted n (Insert p vs) = omega arith
loaded-counted n (Dup p q) = omega arith
loaded-counted n (Load m bytes) = omega arith
loaded-counted n c = omega arith

-- ---- row numbers in range

both : (a b : Bool) → (a && b) ≡ true → (a ≡ true) × (b ≡ true)
both true b e = (refl, e)
both false b e = absurd cc

le-true : (a b : ℕ) → nat_le a b ≡ true → a ≤ b
le-true a b e = grind (arith, nat_tests)

lt-true : (a b : ℕ) → nat_lt a b ≡ true → a < b
lt-true a b e = grind (arith, nat_tests)

between : (p q n : ℕ) → (nat_le p q && nat_le q n) ≡ true → (p ≤ q) × (q ≤ n)
between p q n e = let h = both _ _ e in (le-true p q h.0, le-true q n h.1)

three : (p q n k m : ℕ) → (nat_le p q && (nat_le q n && nat_le k m)) ≡ true → (p ≤ q) × (q ≤ n) × (k ≤ m)
three p q n k m e = let h = both _ _ e in let g = both _ _ h.1 in (le-true p q h.0, le-true q n g.0, le-true k m g.1)

pub in_range-facts : (n : ℕ) (c : Command) → is_in_range n c ≡ true → IsInRange n c
in_range-facts n (Insert p vs) e = le-true p n e
in_range-facts n (Delete p q) e = between p q n e
in_range-facts n (Set p f v) e = lt-true p n e
in_range-facts n (Get p) e = lt-true p n e
in_range-facts n (Copy p q r) e = three p q n (r + (q - p)) n e
in_range-facts n (Swap p q) e = let h = both _ _ e in (lt-true p n h.0, lt-true q n h.1)
in_range-facts n (Rotate p q k) e = three p q n k (q - p) e
in_range-facts n (Dup p q) e = between p q n e
in_range-facts n c e = tt

pub not-false : (b : Bool) → not b ≡ false → b ≡ true
not-false true e = refl
not-false false e = absurd cc

-- ---- the cause by what decides it

-- the cause of a table by its layout and how many rows it has
pub cause-of : (l : LayoutShape) (n : ℕ) (kept : Bool) (t : TableShape) (c : Command) (form field row value : Bool)
    → IsTableOf l n kept t → wrong_form l c ≡ form → wrong_field l c ≡ field → wrong_row n c ≡ row
    → wrong_value l c ≡ value
    → by_conditions form field row value (too_full t c) (wrong_image l c) (nothing_kept kept c) ≡ cause_in t c
cause-of l n kept t c form field row value h a b d e =
    sym (cause_in-conditions t c form field row value (too_full t c) (wrong_image l c) (nothing_kept kept c) (record {
      form_is = ap (λ x. wrong_form x c) h.layout ∙ a;
      field_is = ap (λ x. wrong_field x c) h.layout ∙ b;
      row_is = ap (λ m. wrong_row m c) h.count ∙ d;
      value_is = ap (λ x. wrong_value x c) h.layout ∙ e;
      full_is = refl;
      image_is = ap (λ x. wrong_image x c) h.layout;
      kept_is = ap (λ b. nothing_kept b c) h.kept;
    }))

-- where no earlier condition holds, the rows after the command decide, and then whether it finds what it wants
pub cause-by_room : (l : LayoutShape) (n : ℕ) (kept : Bool) (t : TableShape) (c : Command) (full image none : Bool)
    → IsTableOf l n kept t → wrong_form l c ≡ false → wrong_field l c ≡ false → wrong_row n c ≡ false
    → wrong_value l c ≡ false → nat_lt MAX_BITS (rows_counted n c * row_width l.fields) ≡ full
    → wrong_image l c ≡ image → nothing_kept kept c ≡ none
    → by_conditions false false false false full image none ≡ cause_in t c
cause-by_room l n kept t c full image none h a b d e k i j =
    let in_range : IsInRange (length t.rows) c =
    in_range-facts (length t.rows) c (ap (λ m. is_in_range m c) h.count ∙ not-false _ d) in
    let room : too_full t c ≡ full =
    full-count t c h.lawful in_range
    ∙ ap (λ m. nat_lt MAX_BITS (rows_counted m c * row_width t.layout.fields)) h.count
    ∙ ap (λ (x : LayoutShape). nat_lt MAX_BITS (rows_counted n c * row_width x.fields)) h.layout
    ∙ k in
    ap (λ b. by_conditions false false false false b image none) (sym room)
    ∙ ap₂ (by_conditions false false false false (too_full t c)) (sym i) (sym j)
    ∙ cause-of l n kept t c false false false false h a b d e

-- ---- commands that no cause refuses

-- a field is there or is none
field-cases : (o : Option FieldShape) (v : ℤ) → option_map_or (λ f. takes f v) o false ≡ true
    → (f : FieldShape) × (o ≡ Some f) × (takes f v ≡ true)
field-cases None v e = absurd cc
field-cases (Some f) v e = (f, refl, e)

taken-facts : (l : LayoutShape) (place : Option ℕ) (v : ℤ) → is_taken l place v ≡ true → IsTaken l place v
taken-facts l None v e = absurd cc
taken-facts l (Some k) v e =
    let h = field-cases (field_at l (Some k)) v e in
    record { index = k; field = h.0; place_is = refl; field_is = h.1; taken = h.2 }

pub values-facts : (l : LayoutShape) (c : Command) → wrong_form l c ≡ false → wrong_value l c ≡ false
    → HasLawfulValues l c
values-facts l (Insert p vs) a b =
    let same : (length vs == length l.fields) ≡ true = not-false _ a in
    record { count = grind (arith, nat_tests); taken = not-false _ b }
values-facts l (Set p f v) a b = taken-facts l f v (not-false _ b)
values-facts l (Mark x f t v) a b = taken-facts l f v (not-false _ b)
values-facts l c a b = tt

image-facts : (l : LayoutShape) (c : Command) → wrong_image l c ≡ false → HasImage l c
image-facts l (Load n bytes) e = not-false (is_image l n bytes) e
image-facts l c e = tt

kept-facts : (kept : Bool) (c : Command) → nothing_kept kept c ≡ false → HasKept kept c
kept-facts kept Back e = not-false kept e
kept-facts kept c e = tt

-- the conditions of a command that no cause refuses
no_conditions : (t : TableShape) (c : Command) → cause_in t c ≡ None
    → HoldNone (wrong_form t.layout c) (wrong_field t.layout c) (wrong_row (length t.rows) c) (wrong_value t.layout c)
    (too_full t c) (wrong_image t.layout c) (nothing_kept (is_some t.kept) c)
no_conditions t c e =
    no_cause _ _ _ _ _ _ _ (sym (cause_in-conditions t c _ _ _ _ _ _ _ (conditions-of t c)) ∙ e)

-- what holds of a command that no cause refuses
pub accepted : (t : TableShape) (c : Command) → cause_in t c ≡ None → IsAccepted t c
accepted t c e =
    let h = no_conditions t c e in
    let full = h.full_is in
    record {
      in_range = in_range-facts (length t.rows) c (not-false _ h.row_is);
      values = values-facts t.layout c h.form_is h.value_is;
      room = grind (arith, nat_tests);
      image = image-facts t.layout c h.image_is;
      kept = kept-facts (is_some t.kept) c h.kept_is;
    }

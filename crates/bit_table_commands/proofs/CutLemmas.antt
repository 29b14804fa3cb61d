-- A command that is kept cut off is refused, edits and answers as the one that its words spell.
use Rattle.std.proofs.Common.{◌≡◌, ℕ, ◌+◌, ◌-◌, ◌*◌, ◌^◌, ◌<◌, ◌≤◌, ◌&&◌, not, nat_lt, nat_le, Bool, true, false, ℤ}
use Rattle.std.proofs.Common.{List, [], ◌∷◌, inl, inr}
use Rattle.std.proofs.Common.{length, map, Option, Some, None, refl, sym, ap, ap₂, subst, ◌∙◌, arith, zero, suc}
use Rattle.std.specs.Prelude.{slice_get, min, is_some}
use Rattle.std.specs.List.{list_all}
use Rattle.std.specs.Option.{option_map_or}
use Rattle.std.proofs.lemmas.Bool.{cases_lt}
use Rattle.std.proofs.lemmas.Bool.Decides.{nat_tests}
use Rattle.std.proofs.Math.Nat.{mul-le-mul_left}
use Rattle.bit_table_layout.specs.Fields.{FieldShape, is_field, takes}
use Rattle.bit_table_layout.specs.Layouts.{LayoutShape, row_width}
use Rattle.bit_table_layout.specs.declared.layout.TheConstants.{MAX_BITS}
use Rattle.bit_table_layout.proofs.RowLemmas.{fields_lawful, some_row_bits}
use Rattle.bit_table_layout.proofs.LoadLemmas.{length-rows_in_bytes}
use Rattle.bit_table_commands.specs.declared.command.Command.{Command}
use Rattle.bit_table_commands.specs.declared.command.Command.TheVariants.{Insert, Delete, Set, Get, Copy, Swap, Rotate}
use Rattle.bit_table_commands.specs.declared.command.Command.TheVariants.{Dup, Load, Back, Mark}
use Rattle.bit_table_commands.specs.Commands.{cut_off, cut_place, cut_value}
use Rattle.bit_table_commands.specs.Tables.{TableShape, IsTable}
use Rattle.bit_table_commands.specs.Causes.{cause_in, wrong_form, wrong_field, wrong_row, wrong_value, too_full}
use Rattle.bit_table_commands.specs.Causes.{is_in_range}
use Rattle.bit_table_commands.specs.CauseSteps.{rows_loaded}
use Rattle.bit_table_commands.specs.Causes.{wrong_image, nothing_kept, is_taken}
use Rattle.bit_table_commands.specs.Accepted.{IsInRange, HasLawfulValues}
use Rattle.bit_table_commands.specs.Edits.{edit, reply_to}
use Rattle.bit_table_commands.specs.CuttingOff.{CuttingOffChangesNothing}
use Rattle.bit_table_commands.proofs.CauseLemmas.{by_conditions, cause_in-conditions, conditions-of, in_range-facts}
use Rattle.bit_table_commands.proofs.CauseLemmas.{values-facts, not-false, accepted}
use Rattle.bit_table_commands.proofs.ValueLemmas.{take_all-cut_value, cut_value-all_taken, length-cut_value}
use Rattle.bit_table_commands.proofs.ValueLemmas.{takes-cut_value, cut_value-taken, cut_place-within}

-- a table has fewer rows than the greatest row number that a command keeps
few_rows : (t : TableShape) → IsTable t → length t.rows < 2 ^ 64 - 1
few_rows t h =
    let some = some_row_bits t.layout h.layout in
    let e : length t.rows ≤ length t.rows * row_width t.layout.fields = grind arith in
    let room = h.rows.room in
    omega (arith, e, room)

-- ---- the conditions of a command that is cut off are its own

wrong_form-cut : (l : LayoutShape) (c : Command) → wrong_form l (cut_off c) ≡ wrong_form l c
wrong_form-cut l (Insert p vs) = rw (length-cut_value vs) refl
wrong_form-cut l c = refl

wrong_field-cut : (l : LayoutShape) (c : Command) → wrong_field l (cut_off c) ≡ wrong_field l c
wrong_field-cut l (Set p f v) = refl
wrong_field-cut l c = refl

nothing_kept-cut : (kept : Bool) (c : Command) → nothing_kept kept (cut_off c) ≡ nothing_kept kept c
nothing_kept-cut kept Back = refl
nothing_kept-cut kept c = refl

-- comparisons of numbers that are cut off at m, where n is less
cut_le : (m n p : ℕ) → n < m → nat_le (min p m) n ≡ nat_le p n
cut_le m n p h = grind (arith, nat_tests)

cut_lt : (m n p : ℕ) → n < m → nat_lt (min p m) n ≡ nat_lt p n
cut_lt m n p h = grind (arith, nat_tests)

cut_between : (m n p q : ℕ) → n < m
    → (nat_le (min p m) (min q m) && nat_le (min q m) n) ≡ (nat_le p q && nat_le q n)
cut_between m n p q h = grind (arith, nat_tests)

cut_copy : (m n p q r : ℕ) → n < m
    → (nat_le (min p m) (min q m) && (nat_le (min q m) n && nat_le (min r m + (min q m - min p m)) n))
    ≡ (nat_le p q && (nat_le q n && nat_le (r + (q - p)) n))
cut_copy m n p q r h = grind (arith, nat_tests)

cut_rotate : (m n p q k : ℕ) → n < m
    → (nat_le (min p m) (min q m) && (nat_le (min q m) n && nat_le (min k m) (min q m - min p m)))
    ≡ (nat_le p q && (nat_le q n && nat_le k (q - p)))
cut_rotate m n p q k h = grind (arith, nat_tests)

cut_both : (m n p q : ℕ) → n < m → (nat_lt (min p m) n && nat_lt (min q m) n) ≡ (nat_lt p n && nat_lt q n)
cut_both m n p q h = grind (arith, nat_tests)

is_in_range-cut : (n : ℕ) (c : Command) → n < 2 ^ 64 - 1 → is_in_range n (cut_off c) ≡ is_in_range n c
is_in_range-cut n (Insert p vs) h = cut_le (2 ^ 64 - 1) n p h
is_in_range-cut n (Delete p q) h = cut_between (2 ^ 64 - 1) n p q h
is_in_range-cut n (Set p f v) h = cut_lt (2 ^ 64 - 1) n p h
is_in_range-cut n (Get p) h = cut_lt (2 ^ 64 - 1) n p h
is_in_range-cut n (Copy p q r) h = cut_copy (2 ^ 64 - 1) n p q r h
is_in_range-cut n (Swap p q) h = cut_both (2 ^ 64 - 1) n p q h
is_in_range-cut n (Rotate p q k) h = cut_rotate (2 ^ 64 - 1) n p q k h
is_in_range-cut n (Dup p q) h = cut_between (2 ^ 64 - 1) n p q h
is_in_range-cut n c h = refl

-- a field of a lawful layout is lawful
field-lawful : (fs : List FieldShape) (k : ℕ) (f : FieldShape) → list_all is_field fs ≡ true → slice_get fs k ≡ Some f
    → is_field f ≡ true
field-lawful [] k f h e = absurd cc
field-lawful (g ∷ fs) zero f h e = let same : g ≡ f = cc in let first : is_field g ≡ true = grind arith in cc
field-lawful (g ∷ fs) (suc k) f h e = field-lawful fs k f (grind arith) e

taken-cut : (fs : List FieldShape) (o : Option FieldShape) (v : ℤ)
    → ((f : FieldShape) → o ≡ Some f → is_field f ≡ true)
    → option_map_or (λ f. takes f (cut_value v)) o false ≡ option_map_or (λ f. takes f v) o false
taken-cut fs None v h = refl
taken-cut fs (Some f) v h = takes-cut_value f v (h f refl)

is_taken-cut : (l : LayoutShape) (place : Option ℕ) (v : ℤ) → list_all is_field l.fields ≡ true
    → is_taken l place (cut_value v) ≡ is_taken l place v
is_taken-cut l None v h = refl
is_taken-cut l (Some k) v h = taken-cut l.fields (slice_get l.fields k) v (λ f e. field-lawful l.fields k f h e)

wrong_value-cut : (l : LayoutShape) (c : Command) → list_all is_field l.fields ≡ true
    → wrong_value l (cut_off c) ≡ wrong_value l c
wrong_value-cut l (Insert p vs) h = ap not (take_all-cut_value l.fields vs h)
wrong_value-cut l (Set p f v) h = ap not (is_taken-cut l f v h)
wrong_value-cut l (Mark x f t v) h = ap not (is_taken-cut l f v h)
wrong_value-cut l c h = refl

-- ---- a command that is not refused is kept as it is spelled

cut_within : (n p : ℕ) → n < 2 ^ 64 - 1 → p ≤ n → cut_place p ≡ p
cut_within n p h k = cut_place-within p (omega arith)

cut_off-within : (l : LayoutShape) (n : ℕ) (c : Command) → n < 2 ^ 64 - 1 → list_all is_field l.fields ≡ true
    → IsInRange n c → HasLawfulValues l c → rows_loaded c ≤ 2 ^ 64 - 1 → cut_off c ≡ c
cut_off-within l n (Insert p vs) h lawful k v few =
    let place = cut_within n p h k in
    let values : map cut_value vs ≡ vs = cut_value-all_taken l.fields vs lawful v.taken in
    cc
cut_off-within l n (Delete p q) h lawful (a, b) v few =
    let first = cut_within n p h (omega arith) in let second = cut_within n q h b in cc
cut_off-within l n (Set p f x) h lawful k v few =
    let place = cut_within n p h (omega arith) in
    let value : cut_value x ≡ x =
    cut_value-taken v.field x (field-lawful l.fields v.index v.field lawful v.field_is) v.taken in
    cc
cut_off-within l n (Get p) h lawful k v few = let place = cut_within n p h (omega arith) in cc
cut_off-within l n (Copy p q r) h lawful (a, b, d) v few =
    let first = cut_within n p h (omega arith) in
    let second = cut_within n q h b in
    let third = cut_within n r h (omega arith) in
    cc
cut_off-within l n (Swap p q) h lawful (a, b) v few =
    let first = cut_within n p h (omega arith) in let second = cut_within n q h (omega arith) in cc
cut_off-within l n (Rotate p q k) h lawful (a, b, d) v few =
    let first = cut_within n p h (omega arith) in
    let second = cut_within n q h b in
    let third = cut_within n k h (omega arith) in
    cc
cut_off-within l n (Dup p q) h lawful (a, b) v few =
    let first = cut_within n p h (omega arith) in let second = cut_within n q h b in cc
cut_off-within l n (Load m bytes) h lawful k v few = ap (λ p. Load p bytes) (cut_place-within m few)
cut_off-within l n (Mark x f t y) h lawful k v few =
    ap (Mark x f t) (cut_value-taken v.field y (field-lawful l.fields v.index v.field lawful v.field_is) v.taken)
cut_off-within l n c h lawful k v few = refl

-- as many rows as there is room for are kept
few_held : (t : TableShape) → IsTable t → (n : ℕ) → n * row_width t.layout.fields ≤ MAX_BITS → n ≤ 2 ^ 64 - 1
few_held t h n room =
    let some = some_row_bits t.layout h.layout in
    let e : n ≤ n * row_width t.layout.fields = grind arith in
    omega (arith, e, room)

few_loaded : (t : TableShape) → IsTable t → (c : Command)
    → length (edit t c).rows * row_width t.layout.fields ≤ MAX_BITS → rows_loaded c ≤ 2 ^ 64 - 1
few_loaded t h (Load n bytes) room =
    few_held t h n
    (subst (λ m. m * row_width t.layout.fields ≤ MAX_BITS) (length-rows_in_bytes t.layout n bytes) room)
few_loaded t h c room = omega arith

-- a command that no cause refuses is kept as it is spelled
pub cut_off-accepted : (t : TableShape) → IsTable t → (c : Command) → cause_in t c ≡ None → cut_off c ≡ c
cut_off-accepted t h c e =
    let a = accepted t c e in
    cut_off-within t.layout (length t.rows) c (few_rows t h) (fields_lawful t.layout h.layout) a.in_range a.values
    (few_loaded t h c a.room)

-- ---- the law

-- the rows after a command matter only where nothing refuses it before, and its bytes only where these have room
record SameFrom (one other image bytes : Bool) : Type 0 where
  room : one ≡ other
  found : other ≡ false → image ≡ bytes

by_earlier : (form field row value one other image bytes kept : Bool)
    → (form ≡ false → row ≡ false → value ≡ false → SameFrom one other image bytes)
    → by_conditions form field row value one image kept ≡ by_conditions form field row value other bytes kept
by_earlier true field row value one other image bytes kept h = refl
by_earlier false true row value one other image bytes kept h = refl
by_earlier false false true value one other image bytes kept h = refl
by_earlier false false false true one other image bytes kept h = refl
by_earlier false false false false one true image bytes kept h =
    ap (λ b. by_conditions false false false false b image kept) (h refl refl refl).room
by_earlier false false false false one false image bytes kept h =
    let same = h refl refl refl in
    ap₂ (λ b i. by_conditions false false false false b i kept) same.room (same.found refl)

-- rows that are counted up to m have room where they have
cut_room : (m most n w : ℕ) → 1 ≤ w → most < m → nat_lt most (min n m * w) ≡ nat_lt most (n * w)
cut_room m most n w some few = elim (cases_lt m n) [
  | inl past ↦
      let least : min n m ≡ m = omega arith in
      let few_rows : m * 1 ≤ m * w = mul-le-mul_left m some in
      let all_rows : n * 1 ≤ n * w = mul-le-mul_left n some in
      let one : nat_lt most (m * w) ≡ true = grind (arith, nat_tests) in
      let other : nat_lt most (n * w) ≡ true = grind (arith, nat_tests) in
      ap (λ k. nat_lt most (k * w)) least ∙ one ∙ sym other
  | inr within ↦ let least : min n m ≡ n = omega arith in ap (λ k. nat_lt most (k * w)) least
]

-- a command that nothing refuses before has room where it has that is kept, and then the same image
same_from : (t : TableShape) → IsTable t → (c : Command) → wrong_form t.layout c ≡ false
    → wrong_row (length t.rows) c ≡ false → wrong_value t.layout c ≡ false
    → SameFrom (too_full t (cut_off c)) (too_full t c) (wrong_image t.layout (cut_off c)) (wrong_image t.layout c)
same_from t h (Load n bytes) form row value =
    let w = row_width t.layout.fields in
    let m = 2 ^ 64 - 1 in
    let count = length-rows_in_bytes t.layout n bytes in
    record {
      room =
          ap (λ k. nat_lt MAX_BITS (k * w)) (length-rows_in_bytes t.layout (cut_place n) bytes)
          ∙ cut_room m MAX_BITS n w (some_row_bits t.layout h.layout) (omega arith)
          ∙ ap (λ k. nat_lt MAX_BITS (k * w)) (sym count);
      found = λ none.
          let room : nat_lt MAX_BITS (n * w) ≡ false = ap (λ k. nat_lt MAX_BITS (k * w)) (sym count) ∙ none in
          let few = few_held t h n (grind (arith, nat_tests)) in
          ap (λ k. wrong_image t.layout (Load k bytes)) (cut_place-within n few);
    }
same_from t h c form row value =
    let same = cut_off-within t.layout (length t.rows) c (few_rows t h) (fields_lawful t.layout h.layout)
    (in_range-facts (length t.rows) c (not-false _ row)) (values-facts t.layout c form value) (omega arith) in
    record { room = ap (too_full t) same; found = λ none. ap (wrong_image t.layout) same }

-- what a command keeps is refused for the causes for which its words are
pub cause_in-cut_off : (t : TableShape) → IsTable t → (c : Command) → cause_in t (cut_off c) ≡ cause_in t c
cause_in-cut_off t h c =
    let few = few_rows t h in
    let lawful = fields_lawful t.layout h.layout in
    let one = cause_in-conditions t (cut_off c) _ _ _ _ _ _ _ (record {
      form_is = wrong_form-cut t.layout c;
      field_is = wrong_field-cut t.layout c;
      row_is = ap not (is_in_range-cut (length t.rows) c few);
      value_is = wrong_value-cut t.layout c lawful;
      full_is = refl;
      image_is = refl;
      kept_is = nothing_kept-cut (is_some t.kept) c;
    }) in
    let other = cause_in-conditions t c _ _ _ _ _ _ _ (conditions-of t c) in
    let same = by_earlier (wrong_form t.layout c) (wrong_field t.layout c) (wrong_row (length t.rows) c)
    (wrong_value t.layout c) (too_full t (cut_off c)) (too_full t c) (wrong_image t.layout (cut_off c))
    (wrong_image t.layout c) (nothing_kept (is_some t.kept) c) (same_from t h c) in
    one ∙ same ∙ sym other

-- a command that is cut off acts as the command
pub cut_off-acts : CuttingOffChangesNothing
cut_off-acts t h c = record {
  same_cause = cause_in-cut_off t h c;
  same_edit = λ none. ap (edit t) (cut_off-accepted t h c none);
  same_reply = λ none. ap (reply_to t) (cut_off-accepted t h c none);
}

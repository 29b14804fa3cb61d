-- Lines of CSV, and what is told of the rows that are selected.
use Rattle.std.proofs.Common.{◌≡◌, ℕ, ◌+◌, ◌<◌, ◌≤◌, Bool, true, false, cond, List, [], ◌∷◌, ◌++◌, map, take}
use Rattle.std.proofs.Common.{length, refl, sym, ap, ap₂, ◌∙◌}
use Rattle.std.proofs.Common.{append-nil, take_all, append_assoc, length-append, ℤ, get_or}
use Rattle.std.specs.Prelude.{count_by, filter, slice_get, Some, Result, Ok, Err, IfOk}
use Rattle.std.specs.List.{join_with_byte, flat_map}
use Rattle.std.proofs.lemmas.List.Sums.{sum_by-cons}
use Rattle.std.proofs.lemmas.List.Concat.{flat_map-append}
use Rattle.std.proofs.lemmas.List.Folds.{flat_map-map}
use Rattle.std.proofs.lemmas.List.{take_more}
use Rattle.bit_table.specs.Edits.{numbers_at}
use Rattle.bit_table.specs.Marks.{rows_passing}
use Rattle.bit_table.specs.Rows.{Row, all_numbers}
use Rattle.bit_table.specs.Fields.{FieldShape}
use Rattle.bit_table.specs.Tables.{TableShape}
use Rattle.column_table.specs.declared.condition.Condition.{Condition}
use Rattle.column_table.specs.Answers.{csv_line, row_line, selected_text}
use Rattle.column_table.specs.Conditions.{meets, places_meeting}
use Rattle.column_table.specs.Selections.{is_selected}
use Rattle.column_table.proofs.ListLemmas.{same_cons}

-- ---- lines

-- the texts of items, each behind a comma
abbrev pub behind_commas : {X : Type 0} → (X → List ℕ) → List X → List ℕ
behind_commas shown items = flat_map (λ x. 44 ∷ shown x) items

joined-cons : {X : Type 0} (shown : X → List ℕ) (x : X) (xs : List X)
    → join_with_byte 44 (map shown (x ∷ xs)) ≡ shown x ++ behind_commas shown xs
joined-cons shown x [] = sym (append-nil (shown x))
joined-cons shown x (y ∷ xs) = ap (λ rest. shown x ++ (44 ∷ rest)) (joined-cons shown y xs)

-- a line that is put together from the first item and the others
pub line_of : {X : Type 0} (shown : X → List ℕ) (x : X) (all xs : List X) (old start text new : List ℕ) (i : ℕ)
    → all ≡ x ∷ xs → start ≡ old ++ shown x → text ≡ start ++ behind_commas shown (take i xs) → length xs ≤ i
    → new ≡ text ++ 10 ∷ [] → new ≡ old ++ csv_line (map shown all)
line_of shown x all xs old start text new i is first h most last =
    let whole : text ≡ old ++ join_with_byte 44 (map shown all) =
    h ∙ ap (λ l. start ++ behind_commas shown l) (take_all i xs most) ∙ ap (λ l. l ++ behind_commas shown xs) first
    ∙ append_assoc old (shown x) (behind_commas shown xs) ∙ ap (λ l. old ++ l) (sym (joined-cons shown x xs))
    ∙ ap (λ l. old ++ join_with_byte 44 (map shown l)) (sym is) in
    last ∙ ap (λ l. l ++ 10 ∷ []) whole ∙ append_assoc old (join_with_byte 44 (map shown all)) (10 ∷ [])

pub empty_line : {X : Type 0} (shown : X → List ℕ) (all : List X) (old new : List ℕ) → all ≡ []
    → new ≡ old ++ 10 ∷ [] → new ≡ old ++ csv_line (map shown all)
empty_line shown all old new is last = last ∙ ap (λ l. old ++ csv_line (map shown l)) (sym is)

-- one item more
pub commas_more : {X : Type 0} (shown : X → List ℕ) (xs : List X) (i : ℕ) (d : X) (start text mid new : List ℕ)
    → i < length xs → text ≡ start ++ behind_commas shown (take i xs) → mid ≡ text ++ 44 ∷ []
    → new ≡ mid ++ shown (get_or xs i d) → new ≡ start ++ behind_commas shown (take (i + 1) xs)
commas_more shown xs i d start text mid new inside h comma item =
    let x = get_or xs i d in
    let more : behind_commas shown (take (i + 1) xs) ≡ behind_commas shown (take i xs) ++ (44 ∷ shown x) =
    ap (behind_commas shown) (take_more xs i d inside) ∙ flat_map-append (λ y. 44 ∷ shown y) (take i xs) (x ∷ [])
    ∙ ap (λ l. behind_commas shown (take i xs) ++ l) (append-nil (44 ∷ shown x)) in
    item ∙ ap (λ l. l ++ shown x) comma ∙ append_assoc text (44 ∷ []) (shown x) ∙ ap (λ l. l ++ (44 ∷ shown x)) h
    ∙ append_assoc start (behind_commas shown (take i xs)) (44 ∷ shown x) ∙ ap (λ l. start ++ l) (sym more)

-- ---- rows that are selected

pub count_same : (conditions : List Condition) (rows : List Row)
    → map is_selected rows ≡ map (meets conditions) (all_numbers rows)
    → count_by is_selected rows ≡ count_by (meets conditions) (all_numbers rows)
count_same conditions [] h = refl
count_same conditions (row ∷ rows) h =
    let same = same_cons (is_selected row) (meets conditions row.numbers) (map is_selected rows)
    (map (meets conditions) (all_numbers rows)) h in
    sum_by-cons (λ r. cond (is_selected r) 1 0) row rows
    ∙ ap₂ (λ b n. cond b 1 0 + n) same.first (count_same conditions rows same.rest)
    ∙ sym (sum_by-cons (λ ns. cond (meets conditions ns) 1 0) row.numbers (all_numbers rows))

pub places_same : (conditions : List Condition) (from : ℕ) (rows : List Row)
    → map is_selected rows ≡ map (meets conditions) (all_numbers rows)
    → rows_passing is_selected from rows ≡ places_meeting conditions from (all_numbers rows)
places_same conditions from [] h = refl
places_same conditions from (row ∷ rows) h =
    let same = same_cons (is_selected row) (meets conditions row.numbers) (map is_selected rows)
    (map (meets conditions) (all_numbers rows)) h in
    ap₂ (λ b l. cond b (from ∷ l) l) same.first (places_same conditions (from + 1) rows same.rest)

at_place : (before rows : List Row) (row : Row) → slice_get (before ++ row ∷ rows) (length before) ≡ Some row
at_place [] rows row = refl
at_place (first ∷ before) rows row = at_place before rows row

picked_one : (a b : Bool) (g : ℕ → List ℤ) (n : ℕ) (ps : List ℕ) (v : List ℤ) (fs : List (List ℤ)) → a ≡ b → g n ≡ v
    → map g ps ≡ fs → map g (cond a (n ∷ ps) ps) ≡ cond b (v ∷ fs) fs
picked_one true true g n ps v fs e one rest = ap₂ (λ x xs. x ∷ xs) one rest
picked_one true false g n ps v fs e one rest = absurd cc
picked_one false true g n ps v fs e one rest = absurd cc
picked_one false false g n ps v fs e one rest = rest

picked : (conditions : List Condition) (before rows : List Row)
    → map is_selected rows ≡ map (meets conditions) (all_numbers rows)
    → map (λ p. numbers_at p (before ++ rows)) (rows_passing is_selected (length before) rows)
    ≡ filter (meets conditions) (all_numbers rows)
picked conditions before [] h = refl
picked conditions before (row ∷ rows) h =
    let same = same_cons (is_selected row) (meets conditions row.numbers) (map is_selected rows)
    (map (meets conditions) (all_numbers rows)) h in
    let one : numbers_at (length before) (before ++ row ∷ rows) ≡ row.numbers = rw (at_place before rows row) in
    let size : length (before ++ row ∷ []) ≡ length before + 1 = length-append before (row ∷ []) in
    let rest : map (λ p. numbers_at p (before ++ row ∷ rows)) (rows_passing is_selected (length before + 1) rows)
    ≡ filter (meets conditions) (all_numbers rows) =
    ap₂ (λ l n. map (λ p. numbers_at p l) (rows_passing is_selected n rows)) (sym (append_assoc before (row ∷ []) rows))
    (sym size)
    ∙ picked conditions (before ++ row ∷ []) rows same.rest in
    picked_one (is_selected row) (meets conditions row.numbers) (λ p. numbers_at p (before ++ row ∷ rows)) (length before)
    (rows_passing is_selected (length before + 1) rows) row.numbers (filter (meets conditions) (all_numbers rows))
    same.first one rest

-- the numbers of the selected rows are those that meet all conditions
pub rows_same : (conditions : List Condition) (rows : List Row)
    → map is_selected rows ≡ map (meets conditions) (all_numbers rows)
    → map (λ p. numbers_at p rows) (rows_passing is_selected 0 rows) ≡ filter (meets conditions) (all_numbers rows)
rows_same conditions rows h = picked conditions [] rows h

-- ---- texts put together

-- the text of one item more
pub items_more : {X : Type 0} (shown : X → List ℕ) (xs : List X) (i : ℕ) (d : X) (start text new : List ℕ)
    → i < length xs → text ≡ start ++ flat_map shown (take i xs) → new ≡ text ++ shown (get_or xs i d)
    → new ≡ start ++ flat_map shown (take (i + 1) xs)
items_more shown xs i d start text new inside h item =
    let x = get_or xs i d in
    let more : flat_map shown (take (i + 1) xs) ≡ flat_map shown (take i xs) ++ shown x =
    ap (flat_map shown) (take_more xs i d inside) ∙ flat_map-append shown (take i xs) (x ∷ [])
    ∙ ap (λ l. flat_map shown (take i xs) ++ l) (append-nil (shown x)) in
    item ∙ ap (λ l. l ++ shown x) h ∙ append_assoc start (flat_map shown (take i xs)) (shown x)
    ∙ ap (λ l. start ++ l) (sym more)

-- the header, and the rows at all places
pub selected_is : (t : TableShape) (fields : List FieldShape) (names text : List ℕ) (places : List ℕ) (i : ℕ)
    → names ≡ csv_line (map (λ (f : FieldShape). f.name) fields) → fields ≡ t.layout.fields
    → text ≡ names ++ flat_map (λ p. row_line (numbers_at p t.rows)) (take i places) → length places ≤ i
    → places ≡ rows_passing is_selected 0 t.rows → text ≡ selected_text t
selected_is t fields names text places i named same h most told =
    let line = λ (p : ℕ). row_line (numbers_at p t.rows) in
    h ∙ ap (λ l. names ++ flat_map line l) (take_all i places most ∙ told)
    ∙ ap (λ l. l ++ flat_map line (rows_passing is_selected 0 t.rows))
    (named ∙ ap (λ fs. csv_line (map (λ (f : FieldShape). f.name) fs)) same)
    ∙ ap (λ l. csv_line (map (λ (f : FieldShape). f.name) t.layout.fields) ++ l)
    (sym (flat_map-map row_line (λ p. numbers_at p t.rows) (rows_passing is_selected 0 t.rows)))

pub if_ok_along : {T E : Type 0} (f : T → List ℕ) (a b : List ℕ) (r : Result T E) → IfOk r (λ v. f v ≡ a) → a ≡ b
    → IfOk r (λ v. f v ≡ b)
if_ok_along f a b (Ok v) h e = h ∙ e
if_ok_along f a b (Err error) h e = h

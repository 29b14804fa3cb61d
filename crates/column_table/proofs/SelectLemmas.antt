-- What becomes of the letter of the rows that are selected.
use Rattle.std.proofs.Common.{◌≡◌, ◌≢◌, ℕ, ◌+◌, ◌-◌, ◌^◌, ◌<◌, ◌≤◌, ◌&&◌, not, zero, suc, Bool, true, false, ℤ, pos}
use Rattle.std.proofs.Common.{◌≤ℤ◌, ◌<ℤ◌, List, [], ◌∷◌}
use Rattle.std.proofs.Common.{length, map, take, get_or, refl, sym, ap, ap₂, ◌∙◌, arith, subst}
use Rattle.std.specs.Prelude.{Option, Some, int_le, int_lt}
use Rattle.std.specs.List.{list_all}
use Rattle.std.proofs.lemmas.Int.{ints}
use Rattle.std.proofs.lemmas.Bool.{and_parts}
use Rattle.std.proofs.Math.Nat.{one-le-pow}
use Rattle.std.proofs.lemmas.List.Folds.{list_all_more}
use Rattle.bit_table.specs.Fields.{FieldShape, takes, least, limit}
use Rattle.bit_table.specs.Letters.{combined, differ}
use Rattle.bit_table.specs.Marks.{passes, row_bears, number_in_field}
use Rattle.bit_table.specs.Rows.{Row, all_numbers, take_all}
use Rattle.bit_table.specs.Tables.{TableShape, IsTable}
use Rattle.bit_table.specs.Edits.{edit}
use Rattle.bit_table.specs.CommandVariants.{Mark, Combine, Not}
use Rattle.bit_table.specs.BoolOp.{BoolOp}
use Rattle.bit_table.specs.BoolOpVariants.{And, Xor}
use Rattle.bit_table.specs.Test.{Test}
use Rattle.bit_table.specs.TestVariants.{Below, Equal, Above}
use Rattle.bit_table.proofs.CallerLemmas.{row_bears-marked, row_bears-other, marked-numbers}
use Rattle.column_table.specs.declared.condition.Condition.{Condition}
use Rattle.column_table.specs.Conditions.{meets, meets_one}
use Rattle.column_table.specs.Selections.{letter, is_selected, AreSelected, IsNarrowed, NoneSelected, SameNumbers}
use Rattle.column_table.proofs.ListLemmas.{both_same, map_same}

-- ---- numbers and layout

pub same : (t : TableShape) → SameNumbers t t
same t = record { layout = refl; numbers = refl }

pub same_then : (old mid new : TableShape) → SameNumbers old mid → SameNumbers mid new → SameNumbers old new
same_then old mid new a b = record { layout = b.layout ∙ a.layout; numbers = b.numbers ∙ a.numbers }

same_along : (t other new : TableShape) → SameNumbers t other → new ≡ other → SameNumbers t new
same_along t other new h e = subst (SameNumbers t) (sym e) h

pub combined-same : (t new : TableShape) (op : BoolOp) (x y : ℕ) → new ≡ edit t (Combine op x y) → SameNumbers t new
combined-same t new op x y e =
    same_along t (edit t (Combine op x y)) new (record { layout = refl; numbers = marked-numbers x _ t.rows }) e

pub mark-same : (t new : TableShape) (x : ℕ) (f : Option ℕ) (test : Test) (v : ℤ) → new ≡ edit t (Mark x f test v)
    → SameNumbers t new
mark-same t new x f test v e =
    same_along t (edit t (Mark x f test v)) new (record { layout = refl; numbers = marked-numbers x _ t.rows }) e

pub not-same : (t new : TableShape) (x : ℕ) → new ≡ edit t (Not x) → SameNumbers t new
not-same t new x e =
    same_along t (edit t (Not x)) new (record { layout = refl; numbers = marked-numbers x _ t.rows }) e

-- ---- none, and all

differ_self : (b : Bool) → differ b b ≡ false
differ_self true = refl
differ_self false = refl

pub cleared : (t new : TableShape) → new ≡ edit t (Combine Xor letter letter) → NoneSelected t new
cleared t new e =
    ap (λ s. map is_selected s.rows) e
    ∙ row_bears-marked letter (λ row. combined Xor (row_bears letter row) (row_bears letter row)) t.rows
    ∙ map_same _ (λ (row : Row). false) t.rows (λ row. differ_self (row_bears letter row))

none_before : (rows : List Row) (others : List Row) → map is_selected rows ≡ map (λ (row : Row). false) others
    → map (λ (row : Row). not (row_bears letter row)) rows ≡ map (meets []) (all_numbers rows)
none_before [] others h = refl
none_before (row ∷ rows) [] h = absurd cc
none_before (row ∷ rows) (other ∷ others) h =
    let first : is_selected row ≡ false = cc in
    let rest : map is_selected rows ≡ map (λ (row : Row). false) others = cc in
    ap₂ (λ b bs. b ∷ bs) (ap not first) (none_before rows others rest)

pub all_selected : (old t new : TableShape) → NoneSelected old t → new ≡ edit t (Not letter) → AreSelected [] new
all_selected old t new none e =
    let numbers = (not-same t new letter e).numbers in
    ap (λ s. map is_selected s.rows) e
    ∙ row_bears-marked letter (λ row. not (row_bears letter row)) t.rows
    ∙ none_before t.rows old.rows none ∙ ap (λ ns. map (meets []) ns) (sym numbers)

-- ---- one condition more

pub narrowed : (t mid new : TableShape) (condition : Condition)
    → mid ≡ edit t (Mark 1 (Some condition.field) condition.test condition.value)
    → new ≡ edit mid (Combine And letter 1) → IsNarrowed condition t new
narrowed t mid new condition e f =
    let decide = λ (row : Row). passes condition.test (number_in_field (Some condition.field) row) condition.value in
    let apart : letter ≢ 1 = λ h. absurd (omega arith) in
    let one : map is_selected mid.rows ≡ map is_selected t.rows =
    ap (λ s. map is_selected s.rows) e ∙ row_bears-other 1 letter decide t.rows apart in
    let other : map (row_bears 1) mid.rows ≡ map decide t.rows =
    ap (λ s. map (row_bears 1) s.rows) e ∙ row_bears-marked 1 decide t.rows in
    ap (λ s. map is_selected s.rows) f
    ∙ row_bears-marked letter (λ row. combined And (row_bears letter row) (row_bears 1 row)) mid.rows
    ∙ both_same is_selected (row_bears 1) is_selected decide mid.rows t.rows one other

-- a number that a field takes compares with one that it does not take as 0 does
outside : (test : Test) (l u n v : ℤ) → l ≤ℤ pos 0 → pos 0 <ℤ u → int_le l n && int_lt n u ≡ true
    → int_le l v && int_lt v u ≡ false → passes test n v ≡ passes test (pos 0) v
outside Below l u n v a b c d = grind (arith, ints)
outside Equal l u n v a b c d = grind (arith, ints)
outside Above l u n v a b c d = grind (arith, ints)

low_0 : (signed : Bool) (w : ℕ) → least (record { name = []; width = w; signed = signed }) ≤ℤ pos 0
low_0 true w = grind (arith, ints)
low_0 false w = grind (arith, ints)

high_0 : (signed : Bool) (w : ℕ) → pos 0 <ℤ limit (record { name = []; width = w; signed = signed })
high_0 true w = let some : 1 ≤ 2 ^ (w - 1) = one-le-pow (w - 1) 2 (omega arith) in grind (arith, ints)
high_0 false w = let some : 1 ≤ 2 ^ w = one-le-pow w 2 (omega arith) in grind (arith, ints)

beyond : (f : FieldShape) (test : Test) (n v : ℤ) → takes f n ≡ true → takes f v ≡ false
    → passes test n v ≡ passes test (pos 0) v
beyond f test n v a b =
    outside test (least f) (limit f) n v (low_0 f.signed f.width) (high_0 f.signed f.width) a b

-- whether a field takes a value, by its place
pub taken_by : (fields given : List FieldShape) (f : ℕ) (v : ℤ) (d : FieldShape) (b : Bool) → d ≡ get_or given f d
    → given ≡ fields → b ≡ takes d v → takes (get_or fields f d) v ≡ b
taken_by fields given f v d b is same taken =
    ap (λ e. takes e v) (sym (is ∙ ap (λ fs. get_or fs f d) same)) ∙ sym taken

-- a row of the layout has a number for each field, which takes it
taken_at : (fields : List FieldShape) (numbers : List ℤ) (k : ℕ) (d : FieldShape) → take_all fields numbers ≡ true
    → k < length fields → takes (get_or fields k d) (get_or numbers k (pos 0)) ≡ true
taken_at [] numbers k d h below = absurd (omega arith)
taken_at (f ∷ fields) [] k d h below = absurd cc
taken_at (f ∷ fields) (n ∷ numbers) zero d h below = (and_parts (takes f n) (take_all fields numbers) h).0
taken_at (f ∷ fields) (n ∷ numbers) (suc k) d h below =
    taken_at fields numbers k d (and_parts (takes f n) (take_all fields numbers) h).1 (omega arith)

met_by_all : (fields : List FieldShape) (condition : Condition) (d : FieldShape) (row : Row)
    → take_all fields row.numbers ≡ true → condition.field < length fields
    → takes (get_or fields condition.field d) condition.value ≡ false
    → meets_one condition row.numbers ≡ passes condition.test (pos 0) condition.value
met_by_all fields condition d row lawful inside not_taken =
    beyond (get_or fields condition.field d) condition.test (get_or row.numbers condition.field (pos 0)) condition.value
    (taken_at fields row.numbers condition.field d lawful inside) not_taken

and_none : (b : Bool) → false ≡ (b && false)
and_none true = refl
and_none false = refl

and_all : (b : Bool) → b ≡ (b && true)
and_all true = refl
and_all false = refl

-- every row meets a condition of this outcome, or none does
narrowed_to : (fields : List FieldShape) (condition : Condition) (d : FieldShape) (outcome : Bool) (rows : List Row)
    → list_all (λ (row : Row). take_all fields row.numbers) rows ≡ true → condition.field < length fields
    → takes (get_or fields condition.field d) condition.value ≡ false
    → passes condition.test (pos 0) condition.value ≡ outcome
    → map (λ (row : Row). is_selected row && outcome) rows
    ≡ map (λ (row : Row). is_selected row && meets_one condition row.numbers) rows
narrowed_to fields condition d outcome [] lawful inside not_taken is = refl
narrowed_to fields condition d outcome (row ∷ rows) lawful inside not_taken is =
    let parts = and_parts (take_all fields row.numbers) (list_all (λ (row : Row). take_all fields row.numbers) rows) lawful in
    let one : outcome ≡ meets_one condition row.numbers =
    sym (met_by_all fields condition d row parts.0 inside not_taken ∙ is) in
    ap₂ (λ b bs. (is_selected row && b) ∷ bs) one
    (narrowed_to fields condition d outcome rows parts.1 inside not_taken is)

pub narrowed_to_none : (t new : TableShape) (condition : Condition) (d : FieldShape) → IsTable t
    → condition.field < length t.layout.fields → takes (get_or t.layout.fields condition.field d) condition.value ≡ false
    → passes condition.test (pos 0) condition.value ≡ false → NoneSelected t new → IsNarrowed condition t new
narrowed_to_none t new condition d lawful inside not_taken is none =
    none ∙ map_same _ (λ (row : Row). is_selected row && false) t.rows (λ row. and_none (is_selected row))
    ∙ narrowed_to t.layout.fields condition d false t.rows lawful.rows.lawful inside not_taken is

pub narrowed_to_all : (t : TableShape) (condition : Condition) (d : FieldShape) → IsTable t
    → condition.field < length t.layout.fields → takes (get_or t.layout.fields condition.field d) condition.value ≡ false
    → passes condition.test (pos 0) condition.value ≡ true → IsNarrowed condition t t
narrowed_to_all t condition d lawful inside not_taken is =
    map_same is_selected (λ (row : Row). is_selected row && true) t.rows (λ row. and_all (is_selected row))
    ∙ narrowed_to t.layout.fields condition d true t.rows lawful.rows.lawful inside not_taken is

-- ---- all conditions

of_numbers : (condition : Condition) (rows : List Row)
    → map (λ (row : Row). meets_one condition row.numbers) rows ≡ map (meets_one condition) (all_numbers rows)
of_numbers condition [] = refl
of_numbers condition (row ∷ rows) = ap (λ bs. meets_one condition row.numbers ∷ bs) (of_numbers condition rows)

pub selected_more : (conditions : List Condition) (i : ℕ) (d : Condition) (mid new : TableShape) → i < length conditions
    → AreSelected (take i conditions) mid → IsNarrowed (get_or conditions i d) mid new → SameNumbers mid new
    → AreSelected (take (i + 1) conditions) new
selected_more conditions i d mid new inside before step numbers =
    let condition = get_or conditions i d in
    let both : map (λ (row : Row). is_selected row && meets_one condition row.numbers) mid.rows
    ≡ map (λ ns. meets (take i conditions) ns && meets_one condition ns) (all_numbers mid.rows) =
    both_same is_selected (λ (row : Row). meets_one condition row.numbers) (meets (take i conditions)) (meets_one condition)
    mid.rows (all_numbers mid.rows) before (of_numbers condition mid.rows) in
    step ∙ both
    ∙ map_same _ (meets (take (i + 1) conditions)) (all_numbers mid.rows)
    (λ ns. sym (list_all_more (λ c. meets_one c ns) conditions i d inside))
    ∙ ap (λ ns. map (meets (take (i + 1) conditions)) ns) (sym numbers.numbers)

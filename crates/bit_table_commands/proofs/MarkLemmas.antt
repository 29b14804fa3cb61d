-- Rows that are marked, and rows that a test passes.
--
-- What marked rows bear: `row_bears-marked`, `row_bears-other`. Their numbers and letters: `marked-numbers`,
-- `marked-letters`, `marked-decided`. One of them, and how many: `get_or-marked`, `length-marked`. Which rows pass:
-- `rows_passing-same`, `rows_passing-marked`, `rows_passing-append`, `rows_passing-more`, `length-rows_passing`.
use Rattle.std.proofs.Common.{◌≡◌, ◌≢◌, ℕ, ◌+◌, ◌<◌, ◌&&◌, ◌||◌, not, Bool, true, false, cond, List, [], ◌∷◌}
use Rattle.std.proofs.Common.{◌++◌, length, map, take, get_or, refl, sym, ap, ◌∙◌, arith, length-take-le}
use Rattle.std.specs.Prelude.{count_by, if◌then◌else◌}
use Rattle.std.specs.Ordering.{nat_cmp, eq_by_cmp}
use Rattle.std.specs.Cmp.{nat_cmp_total, unsigned_tied}
use Rattle.std.specs.FinSet as set
use Rattle.std.proofs.lemmas.Bool.{eq-eqb, ne_eqb}
use Rattle.std.proofs.lemmas.List.{get_or-map, length-map, take_more}
use Rattle.std.proofs.lemmas.List.Sums.{sum_by-cons}
use Rattle.bit_table_layout.specs.Rows.{Row, all_numbers}
use Rattle.bit_table_layout.specs.LetterSets.{LetterSet, bears, with_letter}
use Rattle.bit_table_commands.specs.Marks.{row_bears, marked, rows_passing}

-- a row that is marked
abbrev pub with_mark : ℕ → (Row → Bool) → Row → Row
with_mark x decide row = record row { letters = with_letter x (decide row) row.letters }

-- ---- rows that are marked

same_letter : (x : ℕ) → eq_by_cmp nat_cmp x x ≡ true
same_letter x = unsigned_tied x x ∙ eq-eqb x x refl

other_letter : (x y : ℕ) → y ≢ x → eq_by_cmp nat_cmp y x ≡ false
other_letter x y apart = unsigned_tied y x ∙ ne_eqb y x apart

-- what is made to bear x, or not, bears it so
bears_same : (x : ℕ) (b : Bool) (letters : LetterSet) → bears x (with_letter x b letters) ≡ b
bears_same x true letters =
    set.contains-insert nat_cmp_total letters x x ∙ ap (λ t. t || bears x letters) (same_letter x)
bears_same x false letters =
    set.contains-remove nat_cmp_total letters x x ∙ ap (λ t. not t && bears x letters) (same_letter x)

-- and any other letter as before
bears_other : (x y : ℕ) (b : Bool) (letters : LetterSet) → y ≢ x → bears y (with_letter x b letters) ≡ bears y letters
bears_other x y true letters apart =
    set.contains-insert nat_cmp_total letters x y ∙ ap (λ t. t || bears y letters) (other_letter x y apart)
bears_other x y false letters apart =
    set.contains-remove nat_cmp_total letters x y ∙ ap (λ t. not t && bears y letters) (other_letter x y apart)

-- the rows bear the letter where it was decided
pub row_bears-marked : (x : ℕ) (decide : Row → Bool) (rows : List Row)
    → map (row_bears x) (marked x decide rows) ≡ map decide rows
row_bears-marked x decide [] = refl
row_bears-marked x decide (row ∷ rows) =
    ap (λ b. b ∷ map (row_bears x) (marked x decide rows)) (bears_same x (decide row) row.letters)
    ∙ ap (λ bs. decide row ∷ bs) (row_bears-marked x decide rows)

-- they bear every other letter as before
pub row_bears-other : (x y : ℕ) (decide : Row → Bool) (rows : List Row) → y ≢ x
    → map (row_bears y) (marked x decide rows) ≡ map (row_bears y) rows
row_bears-other x y decide [] apart = refl
row_bears-other x y decide (row ∷ rows) apart =
    ap (λ b. b ∷ map (row_bears y) (marked x decide rows)) (bears_other x y (decide row) row.letters apart)
    ∙ ap (λ bs. row_bears y row ∷ bs) (row_bears-other x y decide rows apart)

-- their numbers stay
pub marked-numbers : (x : ℕ) (decide : Row → Bool) (rows : List Row)
    → all_numbers (marked x decide rows) ≡ all_numbers rows
marked-numbers x decide [] = refl
marked-numbers x decide (row ∷ rows) = ap (λ ns. row.numbers ∷ ns) (marked-numbers x decide rows)

-- their letters, row by row
pub marked-letters : (x : ℕ) (decide : Row → Bool) (rows : List Row)
    → map (λ (row : Row). row.letters) (marked x decide rows)
    ≡ map (λ (row : Row). with_letter x (decide row) row.letters) rows
marked-letters x decide [] = refl
marked-letters x decide (row ∷ rows) =
    ap (λ ls. with_letter x (decide row) row.letters ∷ ls) (marked-letters x decide rows)

-- their letters, where a row's own letters decide
pub marked-decided : (x : ℕ) (decide : Row → Bool) (told : LetterSet → Bool) (rows : List Row)
    → ((row : Row) → decide row ≡ told row.letters)
    → map (λ (row : Row). row.letters) (marked x decide rows)
    ≡ map (λ letters. with_letter x (told letters) letters) (map (λ (row : Row). row.letters) rows)
marked-decided x decide told [] h = refl
marked-decided x decide told (row ∷ rows) h =
    ap (λ b. with_letter x b row.letters ∷ map (λ (row : Row). row.letters) (marked x decide rows)) (h row)
    ∙ ap (λ ls. with_letter x (told row.letters) row.letters ∷ ls) (marked-decided x decide told rows h)

-- as many rows are marked
pub length-marked : (x : ℕ) (decide : Row → Bool) (rows : List Row) → length (marked x decide rows) ≡ length rows
length-marked x decide rows = simp length-map

-- one of them
pub get_or-marked : (x : ℕ) (decide : Row → Bool) (rows : List Row) (k : ℕ) (d e : Row) → k < length rows
    → get_or (marked x decide rows) k e
    ≡ with_mark x decide (get_or rows k d)
get_or-marked x decide rows k d e h =
    get_or-map (with_mark x decide) rows k d e h

-- ---- rows that a test passes

told_before : (b : Bool) (k : ℕ) (all first others : List ℕ) → all ≡ first ++ others
    → cond b (k ∷ all) all ≡ cond b (k ∷ first) first ++ others
told_before true k all first others h = ap (λ rest. k ∷ rest) h
told_before false k all first others h = h

counted_before : (b : Bool) (k : ℕ) (rest : List ℕ) (n : ℕ) → length rest ≡ n
    → length (cond b (k ∷ rest) rest) ≡ cond b 1 0 + n
counted_before true k rest n h = omega arith
counted_before false k rest n h = omega arith

-- the rows of two lists, one behind the other
pub rows_passing-append : (test : Row → Bool) (from : ℕ) (rows others : List Row)
    → rows_passing test from (rows ++ others)
    ≡ rows_passing test from rows ++ rows_passing test (from + length rows) others
rows_passing-append test from [] others = ap (λ n. rows_passing test n others) (omega arith)
rows_passing-append test from (row ∷ rows) others =
    let place : (from + 1) + length rows ≡ from + length (row ∷ rows) = omega arith in
    told_before (test row) from (rows_passing test (from + 1) (rows ++ others)) (rows_passing test (from + 1) rows)
    (rows_passing test (from + length (row ∷ rows)) others)
    (rows_passing-append test (from + 1) rows others
    ∙ ap (λ n. rows_passing test (from + 1) rows ++ rows_passing test n others) place)

-- one row more
pub rows_passing-more : (test : Row → Bool) (from : ℕ) (rows : List Row) (k : ℕ) (d : Row) → k < length rows
    → rows_passing test from (take (k + 1) rows)
    ≡ rows_passing test from (take k rows) ++ (if test (get_or rows k d) then (from + k) ∷ [] else [])
rows_passing-more test from rows k d h =
    let one = get_or rows k d ∷ [] in
    let size : length (take k rows) ≡ k = length-take-le k rows (omega arith) in
    ap (rows_passing test from) (take_more rows k d h) ∙ rows_passing-append test from (take k rows) one
    ∙ ap (λ n. rows_passing test from (take k rows) ++ rows_passing test (from + n) one) size

-- the numbers are told by which rows pass alone
record SameCons (b c : Bool) (bs cs : List Bool) : Type 0 where
  first : b ≡ c
  rest : bs ≡ cs

same_cons : (b c : Bool) (bs cs : List Bool) → b ∷ bs ≡ c ∷ cs → SameCons b c bs cs
same_cons b c bs cs h = record { first = cc; rest = cc }

pub rows_passing-same : (test other : Row → Bool) (from : ℕ) (rows others : List Row) → map test rows ≡ map other others
    → rows_passing test from rows ≡ rows_passing other from others
rows_passing-same test other from [] [] h = refl
rows_passing-same test other from [] (row ∷ others) h = absurd cc
rows_passing-same test other from (row ∷ rows) [] h = absurd cc
rows_passing-same test other from (row ∷ rows) (one ∷ others) h =
    let same = same_cons (test row) (other one) (map test rows) (map other others) h in
    let rest = rows_passing-same test other (from + 1) rows others same.rest in
    ap (λ b. cond b (from ∷ rows_passing test (from + 1) rows) (rows_passing test (from + 1) rows)) same.first
    ∙ ap (λ l. cond (other one) (from ∷ l) l) rest

-- the rows that bear a letter once it was decided
pub rows_passing-marked : (x : ℕ) (decide : Row → Bool) (from : ℕ) (rows : List Row)
    → rows_passing (row_bears x) from (marked x decide rows) ≡ rows_passing decide from rows
rows_passing-marked x decide from rows =
    rows_passing-same (row_bears x) decide from (marked x decide rows) rows (row_bears-marked x decide rows)

-- as many rows are told as pass
pub length-rows_passing : (test : Row → Bool) (from : ℕ) (rows : List Row)
    → length (rows_passing test from rows) ≡ count_by test rows
length-rows_passing test from [] = refl
length-rows_passing test from (row ∷ rows) =
    counted_before (test row) from (rows_passing test (from + 1) rows) (count_by test rows)
    (length-rows_passing test (from + 1) rows)
    ∙ sym (sum_by-cons (λ r. cond (test r) 1 0) row rows)

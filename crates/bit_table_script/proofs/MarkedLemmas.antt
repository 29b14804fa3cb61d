-- Rows whose letters change, and rows that go.
--
-- Letters decided by letters: `lettered_decided`; told row by row: `lettered_told`, `told_more`, `told_on`, `length-told`; answers as
-- digits: `one_told`, `none_told`. What is told of them: `count-lettered`, `ones-passing`, `bears-letters`, `one_found`, `none_found`, `none_among`,
-- `none_in_zero`, `take_chunk`. Rows that do not bear a letter: `staying-lettered`, `count-staying`. Rows without
-- letters: `blank-from`.
use Rattle.std.proofs.Common.{◌≡◌, ◌≢◌, ℕ, ◌+◌, ◌-◌, ◌*◌, ◌%◌, ◌^◌, ◌<◌, ◌≤◌, ◌==◌}
use Rattle.std.proofs.Common.{zero, suc, Bool, true, false, not}
use Rattle.std.proofs.Common.{List, [], ◌∷◌, ◌++◌, length, map, bit_or}
use Rattle.std.proofs.Common.{cond, get_or, min, take, inl, inr, refl, sym, ap, ap₂, ◌∙◌, arith, if◌then◌else◌}
use Rattle.std.specs.Int.{bit_at, w64}
use Rattle.std.specs.Prelude.{count_by, replicate, slice_index_or, slice_set}
use Rattle.std.specs.List.{filter}
use Rattle.std.specs.FinSet as set
use Rattle.std.proofs.lemmas.Bool.{cases_Bool, cases_eq, cases_lt}
use Rattle.std.proofs.lemmas.List.{append-nil, ext_get_or, get_or-take, length-take, take_all}
use Rattle.std.proofs.lemmas.List.Sums.{length-filter, sum_by-cons}
use Rattle.std.proofs.lemmas.Nat.Bits.{bit_at-zero, bit_at_or, bit_at_set_other, bit_at_set_same}
use Rattle.bit_addressing_memory.specs.Bits.{digit_at}
use Rattle.bit_addressing_memory.specs.declared.direction.Direction.{Direction}
use Rattle.bit_addressing_memory.specs.declared.direction.Direction.TheVariants.{Ascending, Descending}
use Rattle.bit_slice_chunks.specs.Chunk.{chunk_bit}
use Rattle.bit_table_layout.specs.Layouts.{LayoutShape}
use Rattle.bit_table_layout.specs.Readings.{rows_from}
use Rattle.bit_table_layout.specs.Rows.{Row}
use Rattle.bit_table_layout.specs.LetterSets.{LetterSet, bears, with_letter}
use Rattle.bit_table_commands.specs.Marks.{row_bears, marked, rows_passing}
use Rattle.bit_table_rows.specs.Marks.{decided, TellsRows}
use Rattle.bit_table_rows.specs.RowsKept.{left_of}
use Rattle.bit_table_script.specs.Lettered.{lettered}
use Rattle.bit_table_script.specs.Told.{told, ones_from, AreDigits}

-- a letter that is decided by the other letters
pub lettered_decided : (x : ℕ) (decide : LetterSet → Bool) (rows : List Row) (marks : List LetterSet)
    → length rows ≡ length marks
    → lettered rows (decided x decide marks) ≡ marked x (λ (row : Row). decide row.letters) (lettered rows marks)
lettered_decided x decide [] marks same = refl
lettered_decided x decide (row ∷ rows) [] same = absurd (omega (arith, same))
lettered_decided x decide (row ∷ rows) (letters ∷ marks) same =
    ap (λ (rs : List Row). record row { letters = with_letter x (decide letters) letters } ∷ rs)
    (lettered_decided x decide rows marks (omega (arith, same)))

-- a letter that is decided by what the letters do not change
pub lettered_told : (x : ℕ) (decide : Row → Bool) → ((row : Row) (letters : LetterSet) → decide (record row { letters = letters }) ≡ decide row)
    → (rows : List Row) (marks : List LetterSet) → length rows ≡ length marks
    → lettered rows (told x (map decide rows) marks) ≡ marked x decide (lettered rows marks)
lettered_told x decide blind [] marks same = refl
lettered_told x decide blind (row ∷ rows) [] same = absurd (omega (arith, same))
lettered_told x decide blind (row ∷ rows) (letters ∷ marks) same =
    ap₂ (λ (goes : Bool) (rs : List Row). record row { letters = with_letter x goes letters } ∷ rs)
    (sym (blind row letters)) (lettered_told x decide blind rows marks (omega (arith, same)))

pub length-told : (x : ℕ) (flags : List Bool) (marks : List LetterSet) → length (told x flags marks) ≡ length marks
length-told x [] marks = refl
length-told x (flag ∷ flags) [] = refl
length-told x (flag ∷ flags) (letters ∷ marks) = ap suc (length-told x flags marks)

-- one flag more
pub told_more : (x : ℕ) (flags : List Bool) (i : ℕ) (d : Bool) (marks : List LetterSet) → i < length flags
    → length flags ≤ length marks
    → told x (take (i + 1) flags) marks
    ≡ slice_set (told x (take i flags) marks) i
    (with_letter x (get_or flags i d) (slice_index_or (told x (take i flags) marks) i set.empty))
told_more x [] i d marks low enough = absurd (omega (arith, low))
told_more x (flag ∷ flags) i d [] low enough = absurd (omega (arith, enough))
told_more x (flag ∷ flags) zero d (letters ∷ marks) low enough = refl
told_more x (flag ∷ flags) (suc i) d (letters ∷ marks) low enough =
    let count : suc i + 1 ≡ suc (i + 1) = omega arith in
    ap (λ m. told x (take m (flag ∷ flags)) (letters ∷ marks)) count
    ∙ ap (λ ls. with_letter x flag letters ∷ ls) (told_more x flags i d marks (omega (arith, low)) (omega (arith, enough)))

-- a row that has a flag, and one that has none
told_at : (x : ℕ) (flags : List Bool) (marks : List LetterSet) (k : ℕ) → k < length flags → k < length marks
    → get_or (told x flags marks) k set.empty ≡ with_letter x (get_or flags k false) (get_or marks k set.empty)
told_at x [] marks k low inside = absurd (omega (arith, low))
told_at x (flag ∷ flags) [] k low inside = absurd (omega (arith, inside))
told_at x (flag ∷ flags) (letters ∷ marks) zero low inside = refl
told_at x (flag ∷ flags) (letters ∷ marks) (suc k) low inside =
    told_at x flags marks k (omega (arith, low)) (omega (arith, inside))

told_past : (x : ℕ) (flags : List Bool) (marks : List LetterSet) (k : ℕ) → length flags ≤ k
    → get_or (told x flags marks) k set.empty ≡ get_or marks k set.empty
told_past x [] marks k far = refl
told_past x (flag ∷ flags) [] k far = refl
told_past x (flag ∷ flags) (letters ∷ marks) zero far = absurd (omega (arith, far))
told_past x (flag ∷ flags) (letters ∷ marks) (suc k) far = told_past x flags marks k (omega (arith, far))

-- more flags, those of n rows from one on
pub told_on : (x first n : ℕ) (by : ℕ → Bool) (flags : List Bool) (marks now : List LetterSet)
    → first + n ≤ length flags → length flags ≤ length marks
    → ((k : ℕ) → k < n → by k ≡ get_or flags (first + k) false)
    → TellsRows x first n by (told x (take first flags) marks) now → now ≡ told x (take (first + n) flags) marks
told_on x first n by flags marks now within enough same is =
    let upto = take first flags in
    let more = take (first + n) flags in
    let short : length upto ≡ first = omega (arith, length-take first flags, within) in
    let long : length more ≡ first + n = omega (arith, length-take (first + n) flags, within) in
    let size : length now ≡ length marks = is.len ∙ length-told x upto marks in
    ext_get_or set.empty now (told x more marks) (size ∙ sym (length-told x more marks)) (λ k h.
    elim (cases_lt k first) [
      | inl early ↦
          is.below k early
          ∙ told_at x upto marks k (omega (arith, short, early)) (omega (arith, size, h))
          ∙ ap (λ b. with_letter x b (get_or marks k set.empty))
          (get_or-take first flags k false early ∙ sym (get_or-take (first + n) flags k false (omega (arith, early))))
          ∙ sym (told_at x more marks k (omega (arith, long, early)) (omega (arith, size, h)))
      | inr late ↦ elim (cases_lt k (first + n)) [
        | inl here ↦
            let j : ℕ = k - first in
            let at : first + j ≡ k = omega (arith, late) in
            let small : j < n = omega (arith, late, here) in
            ap (λ i. get_or now i set.empty) (sym at)
            ∙ is.there j small
            ∙ ap₂ (with_letter x) (same j small) (told_past x upto marks (first + j) (omega (arith, short)))
            ∙ ap (λ i. with_letter x (get_or flags i false) (get_or marks i set.empty)) at
            ∙ ap (λ b. with_letter x b (get_or marks k set.empty)) (sym (get_or-take (first + n) flags k false here))
            ∙ sym (told_at x more marks k (omega (arith, long, here)) (omega (arith, size, h)))
        | inr past ↦
            is.above k past
            ∙ told_past x upto marks k (omega (arith, short, late))
            ∙ sym (told_past x more marks k (omega (arith, long, past)))
      ]
    ])

-- ---- answers as digits

-- the digit behind those that are told made what is told of it
pub one_told : (says : ℕ → Bool) (n answers r : ℕ) (b : Bool) → n < 64 → says n ≡ b
    → r ≡ bit_or answers (cond b 1 0 * 2 ^ n % 2 ^ 64) → AreDigits says n answers → AreDigits says (n + 1) r
one_told says n answers r b small is made had = record {
  inside = λ k low. elim (cases_eq k n) [
    | inl same ↦ ap (digit_at r) same ∙ here b made ∙ sym is ∙ ap says (sym same)
    | inr apart ↦ others b made k apart ∙ had.inside k (omega (arith, low, apart))
  ];
  past = λ k far. others b made k (omega (arith, far)) ∙ had.past k (omega (arith, far));
} where
  as_it_was : r ≡ bit_or answers (0 * 2 ^ n % 2 ^ 64) → (k : ℕ) → digit_at r k ≡ digit_at answers k
  as_it_was is_r k =
      let none : 0 * 2 ^ n % 2 ^ 64 ≡ 0 = omega arith in
      ap (λ d. d == 1) (ap (λ m. bit_at m k) (is_r ∙ ap (bit_or answers) none)
      ∙ omega (arith, bit_at_or answers 0 k, bit_at-zero k))

  here : (now : Bool) → r ≡ bit_or answers (cond now 1 0 * 2 ^ n % 2 ^ 64) → digit_at r n ≡ now
  here true is_r = ap (λ d. d == 1) (ap (λ m. bit_at m n) is_r ∙ bit_at_set_same w64 answers n small)
  here false is_r = as_it_was is_r n ∙ had.past n (omega arith)

  others : (now : Bool) → r ≡ bit_or answers (cond now 1 0 * 2 ^ n % 2 ^ 64) → (k : ℕ) → k ≢ n
      → digit_at r k ≡ digit_at answers k
  others true is_r k apart =
      ap (λ d. d == 1) (ap (λ m. bit_at m k) is_r ∙ bit_at_set_other w64 answers n small k apart)
  others false is_r k apart = as_it_was is_r k

-- of no digit nothing is told
pub none_told : (says : ℕ → Bool) → AreDigits says 0 0
none_told says = record {
  inside = λ k low. absurd (omega (arith, low));
  past = λ k far. ap (λ d. d == 1) (bit_at-zero k);
}

-- how many rows bear a letter
counted_first : {X : Type 0} (p : X → Bool) (x : X) (xs : List X)
    → count_by p (x ∷ xs) ≡ (if p x then 1 else 0) + count_by p xs
counted_first p x xs = sum_by-cons (λ y. if p y then 1 else 0) x xs

pub count-lettered : (x : ℕ) (rows : List Row) (marks : List LetterSet) → length rows ≡ length marks
    → count_by (bears x) marks ≡ count_by (row_bears x) (lettered rows marks)
count-lettered x [] [] same = refl
count-lettered x [] (letters ∷ marks) same = absurd (omega (arith, same))
count-lettered x (row ∷ rows) [] same = absurd (omega (arith, same))
count-lettered x (row ∷ rows) (letters ∷ marks) same =
    counted_first (bears x) letters marks
    ∙ ap (λ n. (if bears x letters then 1 else 0) + n) (count-lettered x rows marks (omega (arith, same)))
    ∙ sym (counted_first (row_bears x) (record row { letters = letters }) (lettered rows marks))

-- the numbers of the rows that pass a test
pub ones-passing : (test : Row → Bool) (from : ℕ) (rows : List Row) → ones_from from (map test rows) ≡ rows_passing test from rows
ones-passing test from [] = refl
ones-passing test from (row ∷ rows) = ap (λ ns. if test row then from ∷ ns else ns) (ones-passing test (from + 1) rows)

-- the rows that do not bear a letter
pub staying-lettered : (x : ℕ) (rows : List Row) (marks : List LetterSet) → length rows ≡ length marks
    → lettered (left_of (map (bears x) marks) rows) (filter (λ letters. not (bears x letters)) marks)
    ≡ filter (λ row. not (row_bears x row)) (lettered rows marks)
unfolding left_of
staying-lettered x [] [] same = refl
staying-lettered x [] (letters ∷ marks) same = absurd (omega (arith, same))
staying-lettered x (row ∷ rows) [] same = absurd (omega (arith, same))
staying-lettered x (row ∷ rows) (letters ∷ marks) same =
    let rest = staying-lettered x rows marks (omega (arith, same)) in
    elim (cases_Bool (bears x letters)) [
      | inl goes ↦ rw goes rest
      | inr stays ↦ rw stays (ap (λ (rs : List Row). record row { letters = letters } ∷ rs) rest)
    ]

-- rows as their bits give them back bear no letter
pub blank-from : (l : LayoutShape) (n : ℕ) (bits : List Bool)
    → lettered (rows_from l n bits) (replicate n set.empty) ≡ rows_from l n bits
blank-from l zero bits = refl
blank-from l (suc n) bits =
    ap (λ (rs : List Row). get_or (rows_from l (suc n) bits) 0 (record { numbers = []; letters = set.empty }) ∷ rs)
    (blank-from l n _)

-- as many rows stay as do not bear the letter
pub count-staying : (x : ℕ) (marks : List LetterSet)
    → length (filter (λ letters. not (bears x letters)) marks) ≡ count_by not (map (bears x) marks)
count-staying x [] = refl
count-staying x (letters ∷ marks) =
    length-filter (λ s. not (bears x s)) (letters ∷ marks)
    ∙ counted_first (λ s. not (bears x s)) letters marks
    ∙ ap (λ n. (if not (bears x letters) then 1 else 0) + n)
    (sym (length-filter (λ s. not (bears x s)) marks) ∙ count-staying x marks)
    ∙ sym (counted_first not (bears x letters) (map (bears x) marks))

-- which rows bear a letter
pub bears-letters : (x : ℕ) (rows : List Row) → map (bears x) (map (λ (row : Row). row.letters) rows) ≡ map (row_bears x) rows
bears-letters x [] = refl
bears-letters x (row ∷ rows) = ap (λ bs. bears x row.letters ∷ bs) (bears-letters x rows)

-- ---- the places of ones

-- one bit more
ones_more : (place i : ℕ) (bits : List Bool) (d : Bool) → i < length bits
    → ones_from place (take (i + 1) bits)
    ≡ ones_from place (take i bits) ++ (if get_or bits i d then (place + i) ∷ [] else [])
ones_more place i [] d low = absurd (omega (arith, low))
ones_more place zero (bit ∷ bits) d low =
    let same : place ≡ place + 0 = omega arith in
    ap (λ k. if bit then k ∷ [] else []) same
ones_more place (suc i) (bit ∷ bits) d low =
    let count : suc i + 1 ≡ suc (i + 1) = omega arith in
    let next : place + 1 + i ≡ place + suc i = omega arith in
    let rest : ones_from (place + 1) (take (i + 1) bits)
    ≡ ones_from (place + 1) (take i bits) ++ (if get_or bits i d then (place + suc i) ∷ [] else []) =
    ones_more (place + 1) i bits d (omega (arith, low))
    ∙ ap (λ k. ones_from (place + 1) (take i bits) ++ (if get_or bits i d then k ∷ [] else [])) next in
    ap (λ m. ones_from place (take m (bit ∷ bits))) count
    ∙ elim (cases_Bool bit) [
      | inl one ↦ rw one (ap (λ ks. place ∷ ks) rest)
      | inr none ↦ rw none rest
    ]

pub one_found : (i : ℕ) (bits : List Bool) (d : Bool) → i < length bits → get_or bits i d ≡ true
    → ones_from 0 (take (i + 1) bits) ≡ ones_from 0 (take i bits) ++ (i ∷ [])
one_found i bits d low one =
    let same : 0 + i ≡ i = omega arith in
    ones_more 0 i bits d low
    ∙ ap (λ b. ones_from 0 (take i bits) ++ (if b then (0 + i) ∷ [] else [])) one
    ∙ ap (λ k. ones_from 0 (take i bits) ++ (k ∷ [])) same

pub none_found : (i : ℕ) (bits : List Bool) (d : Bool) → i < length bits → get_or bits i d ≡ false
    → ones_from 0 (take (i + 1) bits) ≡ ones_from 0 (take i bits)
none_found i bits d low none =
    ones_more 0 i bits d low
    ∙ ap (λ b. ones_from 0 (take i bits) ++ (if b then (0 + i) ∷ [] else [])) none
    ∙ append-nil (ones_from 0 (take i bits))

pub none_among : (i n : ℕ) (bits : List Bool) → i + n ≤ length bits
    → ((k : ℕ) → k < n → get_or bits (i + k) false ≡ false)
    → ones_from 0 (take (i + n) bits) ≡ ones_from 0 (take i bits)
none_among i zero bits within none =
    let same : i + 0 ≡ i = omega arith in
    ap (λ k. ones_from 0 (take k bits)) same
none_among i (suc n) bits within none =
    let next : i + suc n ≡ i + n + 1 = omega arith in
    ap (λ k. ones_from 0 (take k bits)) next
    ∙ none_found (i + n) bits false (omega arith) (none n (omega arith))
    ∙ none_among i n bits (omega arith) (λ k low. none k (omega arith))

-- no digit of zero is 1
pub none_in_zero : (direction : Direction) (i : ℕ) → chunk_bit direction 0 i ≡ false
none_in_zero Ascending i = ap (λ d. d == 1) (bit_at-zero i)
none_in_zero Descending i = ap (λ d. d == 1) (bit_at-zero (63 - i))

-- the bits up to the end of a chunk, which may have fewer than 64
pub take_chunk : (first count : ℕ) (bits : List Bool) → count ≡ min 64 (length bits - first)
    → take (first + count) bits ≡ take (first + 64) bits
take_chunk first count bits is = elim (cases_lt (length bits - first) 64) [
  | inl last ↦
      take_all (first + count) bits (omega arith) ∙ sym (take_all (first + 64) bits (omega arith))
  | inr whole ↦
      let full : count ≡ 64 = omega arith in
      ap (λ n. take (first + n) bits) full
]

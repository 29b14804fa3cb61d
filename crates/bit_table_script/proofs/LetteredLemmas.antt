-- Rows and their letters, told apart.
--
-- What the two say of the whole: `numbers_lettered`, `letters_lettered`, `length-lettered`, `bits_lettered`,
-- `are_rows-lettered`. The whole from the two: `rows_told`.
use Rattle.std.proofs.Common.{◌≡◌, ℕ, zero, suc, ◌+◌, List, [], ◌∷◌, ◌++◌, ◌&&◌, length, map, get_or, take, drop}
use Rattle.std.proofs.Common.{subst, refl, sym, ap, ap₂, ◌∙◌, arith}
use Rattle.std.specs.Prelude.{ℤ, slice_range}
use Rattle.std.proofs.lemmas.List.{length-map, places, same_lists}
use Rattle.bit_table_layout.specs.Layouts.{LayoutShape}
use Rattle.bit_table_layout.specs.Rows.{Row, all_numbers, are_rows, is_row, row_bits, table_bits}
use Rattle.bit_table_layout.specs.LetterSets.{LetterSet}
use Rattle.bit_table_commands.specs.Edits.{numbers_at}
use Rattle.bit_table_rows.specs.RowEdit.{edited_by, count_after, LiesIn}
use Rattle.bit_table_rows.specs.declared.edit.RowEdit.{RowEdit}
use Rattle.bit_table_rows.proofs.LetterEditLemmas.{edited_map, length-edited, front_mapped, back_mapped, part_mapped}
use Rattle.bit_table_rows.proofs.LetterEditLemmas.{joined_mapped}
use Rattle.bit_table_script.specs.Lettered.{lettered, all_letters, changed_at}

-- letters change no number
pub numbers_lettered : (rows : List Row) (marks : List LetterSet) → all_numbers (lettered rows marks) ≡ all_numbers rows
numbers_lettered [] marks = refl
numbers_lettered (row ∷ rows) [] = refl
numbers_lettered (row ∷ rows) (letters ∷ marks) = ap (λ ns. row.numbers ∷ ns) (numbers_lettered rows marks)

-- the letters are those that were given
pub letters_lettered : (rows : List Row) (marks : List LetterSet) → length rows ≡ length marks
    → all_letters (lettered rows marks) ≡ marks
letters_lettered [] [] same = refl
letters_lettered [] (letters ∷ marks) same = absurd (omega (arith, same))
letters_lettered (row ∷ rows) [] same = absurd (omega (arith, same))
letters_lettered (row ∷ rows) (letters ∷ marks) same =
    ap (λ ls. letters ∷ ls) (letters_lettered rows marks (omega (arith, same)))

pub length-lettered : (rows : List Row) (marks : List LetterSet) → length (lettered rows marks) ≡ length rows
length-lettered [] marks = refl
length-lettered (row ∷ rows) [] = refl
length-lettered (row ∷ rows) (letters ∷ marks) = ap suc (length-lettered rows marks)

-- nor any bit
pub bits_lettered : (l : LayoutShape) (rows : List Row) (marks : List LetterSet)
    → table_bits l (lettered rows marks) ≡ table_bits l rows
bits_lettered l [] marks = refl
bits_lettered l (row ∷ rows) [] = refl
bits_lettered l (row ∷ rows) (letters ∷ marks) = ap (λ bits. row_bits l row ++ bits) (bits_lettered l rows marks)

-- and they are rows of a layout as before
pub are_rows-lettered : (l : LayoutShape) (rows : List Row) (marks : List LetterSet)
    → are_rows l (lettered rows marks) ≡ are_rows l rows
are_rows-lettered l [] marks = refl
are_rows-lettered l (row ∷ rows) [] = refl
are_rows-lettered l (row ∷ rows) (letters ∷ marks) = ap (λ rest. is_row l row && rest) (are_rows-lettered l rows marks)

-- nor the numbers of any row
pub numbers_at-lettered : (p : ℕ) (rows : List Row) (marks : List LetterSet)
    → numbers_at p (lettered rows marks) ≡ numbers_at p rows
numbers_at-lettered p [] marks = refl
numbers_at-lettered p (row ∷ rows) [] = refl
numbers_at-lettered zero (row ∷ rows) (letters ∷ marks) = refl
numbers_at-lettered (suc p) (row ∷ rows) (letters ∷ marks) = numbers_at-lettered p rows marks

-- rows with the same numbers and the same letters are the same
pub rows_told : (rows others : List Row) → all_numbers rows ≡ all_numbers others → all_letters rows ≡ all_letters others
    → rows ≡ others
rows_told [] [] numbers letters = refl
rows_told [] (other ∷ others) numbers letters = absurd (omega (arith, ap length numbers))
rows_told (row ∷ rows) [] numbers letters = absurd (omega (arith, ap length numbers))
rows_told (row ∷ rows) (other ∷ others) numbers letters =
    ap₂ (λ (r : Row) rs. r ∷ rs)
    (ap₂ (λ ns ls. record { numbers = ns; letters = ls })
    (ap (λ ns. get_or ns 0 row.numbers) numbers) (ap (λ ls. get_or ls 0 row.letters) letters))
    (rows_told rows others (ap (drop 1) numbers) (ap (drop 1) letters))

-- an edit of rows with their letters is the same edit of both; x is the new row
pub lettered_edited : (e : RowEdit) (x : Row) (rows after : List Row) (marks others : List LetterSet)
    → length rows ≡ length marks → LiesIn (length marks) e → after ≡ edited_by x e rows
    → others ≡ edited_by x.letters e marks → lettered after others ≡ edited_by x e (lettered rows marks)
lettered_edited e x rows after marks others size within same letters =
    rows_told (lettered after others) (edited_by x e (lettered rows marks))
    (numbers_lettered after others ∙ ap all_numbers same ∙ edited_map (λ (r : Row). r.numbers) e x rows
    ∙ ap (edited_by x.numbers e) (sym (numbers_lettered rows marks))
    ∙ sym (edited_map (λ (r : Row). r.numbers) e x (lettered rows marks)))
    (letters_lettered after others long ∙ letters ∙ ap (edited_by x.letters e) (sym (letters_lettered rows marks size))
    ∙ sym (edited_map (λ (r : Row). r.letters) e x (lettered rows marks)))
  where
    long : length after ≡ length others
    long =
        ap length same ∙ length-edited e x rows (subst (λ n. LiesIn n e) (sym size) within)
        ∙ ap (λ n. count_after n e) size ∙ sym (ap length letters ∙ length-edited e x.letters marks within)

-- an element changed by h, where f sees of it the change k
mapped_twice : {A B : Type 0} (f : A → B) (h : A → A) (k : B → B) → ((x : A) → f (h x) ≡ k (f x)) → (xs : List A)
    → map f (map h xs) ≡ map k (map f xs)
mapped_twice f h k same [] = refl
mapped_twice f h k same (x ∷ xs) = ap₂ (λ y ys. y ∷ ys) (same x) (mapped_twice f h k same xs)

changed_mapped : {A B : Type 0} (f : A → B) (h : A → A) (k : B → B) → ((x : A) → f (h x) ≡ k (f x)) → (p : ℕ) (xs : List A)
    → map f (changed_at h p xs) ≡ changed_at k p (map f xs)
changed_mapped f h k same p xs =
    joined_mapped f (take p xs) (map h (slice_range xs p (p + 1)) ++ drop (p + 1) xs) (front_mapped f p xs)
    (joined_mapped f (map h (slice_range xs p (p + 1))) (drop (p + 1) xs)
    (mapped_twice f h k same (slice_range xs p (p + 1)) ∙ ap (map k) (part_mapped f p (p + 1) xs))
    (back_mapped f (p + 1) xs))

map_same : {A : Type 0} (xs : List A) → map (λ x. x) xs ≡ xs
map_same [] = refl
map_same (x ∷ xs) = ap (λ ys. x ∷ ys) (map_same xs)

nothing_changed : {A : Type 0} (p : ℕ) (xs : List A) → changed_at (λ x. x) p xs ≡ xs
nothing_changed p xs =
    ap (λ ys. take p xs ++ (ys ++ drop (p + 1) xs)) (map_same (slice_range xs p (p + 1)))
    ∙ same_lists _ _ (grind (arith, places)) (λ k d h. grind (arith, places))

length-changed : {A : Type 0} (h : A → A) (p : ℕ) (xs : List A) → length (changed_at h p xs) ≡ length xs
length-changed h p xs =
    sym (length-map (changed_at h p xs) (λ x. zero)) ∙ ap length (changed_mapped (λ x. zero) h (λ u. u) (λ x. refl) p xs)
    ∙ ap length (nothing_changed p (map (λ x. zero) xs)) ∙ length-map xs (λ x. zero)

-- a number of one row changed, and the letters as they were
pub lettered_changed : (change : List ℤ → List ℤ) (p : ℕ) (rows : List Row) (marks : List LetterSet)
    → length rows ≡ length marks
    → lettered (changed_at (λ (r : Row). record r { numbers = change r.numbers }) p rows) marks
    ≡ changed_at (λ (r : Row). record r { numbers = change r.numbers }) p (lettered rows marks)
lettered_changed change p rows marks size =
    rows_told (lettered (changed_at with_change p rows) marks) (changed_at with_change p (lettered rows marks))
    (numbers_lettered (changed_at with_change p rows) marks
    ∙ changed_mapped (λ (r : Row). r.numbers) with_change change (λ r. refl) p rows
    ∙ ap (changed_at change p) (sym (numbers_lettered rows marks))
    ∙ sym (changed_mapped (λ (r : Row). r.numbers) with_change change (λ r. refl) p (lettered rows marks)))
    (letters_lettered (changed_at with_change p rows) marks (length-changed with_change p rows ∙ size)
    ∙ sym (changed_mapped (λ (r : Row). r.letters) with_change (λ s. s) (λ r. refl) p (lettered rows marks)
    ∙ nothing_changed p (all_letters (lettered rows marks)) ∙ letters_lettered rows marks size))
  where
    with_change : Row → Row
    with_change r = record r { numbers = change r.numbers }

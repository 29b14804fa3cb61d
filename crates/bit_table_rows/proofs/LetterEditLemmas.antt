-- An edit of any list, and of rows' letters.
--
-- Of any list: `edited_map`, `length-edited`. Of letters: `marks_edited`.
use Rattle.std.proofs.Common.{◌≡◌, ℕ, ◌+◌, ◌-◌, ◌<◌, ◌≤◌, Bool, false, subst, refl, sym, ap, ap₂, ◌∙◌, arith}
use Rattle.std.proofs.Common.{List, [], ◌∷◌, ◌++◌, length, map, set as put, get_or, take, drop}
use Rattle.std.specs.FinSet as set
use Rattle.std.specs.FinSet.{contains-empty}
use Rattle.std.specs.Ordering.{nat_cmp}
use Rattle.std.specs.Prelude.{slice_range}
use Rattle.std.specs.List.{swap}
use Rattle.std.proofs.lemmas.List.{places, map-append, take-map, drop-map, map-set, length-set}
use Rattle.std.proofs.Math.ListN.{get_or-map}
use Rattle.bit_table_rows.specs.declared.edit.RowEdit.{RowEdit}
use Rattle.bit_table_rows.specs.declared.edit.RowEdit.TheVariants.{Insert, Delete, Copy, Swap, Rotate, Dup}
use Rattle.bit_table_layout.specs.LetterSets.{letter_count, bears}
use Rattle.bit_table_rows.specs.Marks.{list_of, marks_of}
use Rattle.bit_table_rows.specs.RowEdit.{edited_by, added, count_after, LiesIn}
use Rattle.bit_table_rows.proofs.MarkLemmas.{length-marks, column_marked, none_behind, marks_are}

module _ {A B : Type 0} (f : A → B) where
  pub front_mapped : (n : ℕ) (xs : List A) → map f (take n xs) ≡ take n (map f xs)
  front_mapped n xs = sym (take-map f n xs)

  pub back_mapped : (n : ℕ) (xs : List A) → map f (drop n xs) ≡ drop n (map f xs)
  back_mapped n xs = sym (drop-map f n xs)

  pub part_mapped : (p q : ℕ) (xs : List A) → map f (slice_range xs p q) ≡ slice_range (map f xs) p q
  part_mapped p q xs = front_mapped (q - p) (drop p xs) ∙ ap (take (q - p)) (back_mapped p xs)

  pub joined_mapped : (xs ys : List A) {us vs : List B} → map f xs ≡ us → map f ys ≡ vs → map f (xs ++ ys) ≡ us ++ vs
  joined_mapped xs ys same more = map-append f xs ys ∙ ap₂ (λ us vs. us ++ vs) same more

  swap_mapped : (xs : List A) (p q : ℕ) → map f (swap xs p q) ≡ swap (map f xs) p q
  swap_mapped [] p q = refl
  swap_mapped (d ∷ ys) p q =
      map-set f _ q _ ∙ ap₂ (λ l b. put l q b) (map-set f (d ∷ ys) p _ ∙ ap (put (map f (d ∷ ys)) p) (sym (get_or-map f (d ∷ ys) q d)))
      (sym (get_or-map f (d ∷ ys) p d))

  -- each element of an edited list, changed before or after
  pub edited_map : (e : RowEdit) (x : A) (xs : List A) → map f (edited_by x e xs) ≡ edited_by (f x) e (map f xs)
  edited_map (Insert p) x xs = joined_mapped _ _ (front_mapped p xs) (ap (λ l. f x ∷ l) (back_mapped p xs))
  edited_map (Delete p q) x xs = joined_mapped _ _ (front_mapped p xs) (back_mapped q xs)
  edited_map (Copy p q r) x xs =
      joined_mapped _ _ (front_mapped r xs) (joined_mapped _ _ (part_mapped p q xs) (back_mapped (r + (q - p)) xs))
  edited_map (Swap p q) x xs = swap_mapped xs p q
  edited_map (Rotate p q k) x xs =
      joined_mapped _ _ (front_mapped p xs)
      (joined_mapped _ _ (part_mapped (p + k) q xs) (joined_mapped _ _ (part_mapped p (p + k) xs) (back_mapped q xs)))
  edited_map (Dup p q) x xs = joined_mapped _ _ refl (part_mapped p q xs)

length-swapped : {A : Type 0} (xs : List A) (p q : ℕ) → length (swap xs p q) ≡ length xs
length-swapped [] p q = refl
length-swapped (d ∷ ys) p q =
    length-set (put (d ∷ ys) p (get_or (d ∷ ys) q d)) q (get_or (d ∷ ys) p d)
    ∙ length-set (d ∷ ys) p (get_or (d ∷ ys) q d)

-- how long an edited list is
pub length-edited : {A : Type 0} (e : RowEdit) (x : A) (xs : List A) → LiesIn (length xs) e
    → length (edited_by x e xs) ≡ count_after (length xs) e
length-edited (Insert p) x xs within = grind (arith, places)
length-edited (Delete p q) x xs within = grind (arith, places)
length-edited (Copy p q r) x xs within = grind (arith, places)
length-edited (Swap p q) x xs within = omega (arith, length-swapped xs p q)
length-edited (Rotate p q k) x xs within = grind (arith, places)
length-edited (Dup p q) x xs within = grind (arith, places)

-- the letters of rows that are edited, told by the lists that are edited so; a new row bears none
pub marks_edited : (e : RowEdit) (n : ℕ) (lists after : List (List Bool)) → LiesIn n e
    → ((x : ℕ) → x < letter_count → (length (list_of lists x) ≡ n) × (list_of after x ≡ edited_by false e (list_of lists x)))
    → marks_of (count_after n e) after ≡ edited_by set.empty e (marks_of n lists)
marks_edited e n lists after within each =
    marks_are after (count_after n e) (edited_by set.empty e (marks_of n lists))
    (length-edited e set.empty (marks_of n lists) (subst (λ m. LiesIn m e) (sym (length-marks lists n)) within)
    ∙ ap (λ m. count_after m e) (length-marks lists n))
    (λ x low. edited_map (bears x) e set.empty (marks_of n lists)
    ∙ ap (λ b. edited_by b e (map (bears x) (marks_of n lists))) (contains-empty nat_cmp x)
    ∙ ap (edited_by false e) (column_marked lists n x low (each x low).0) ∙ sym (each x low).1)
    (λ x far. edited_map (bears x) e set.empty (marks_of n lists)
    ∙ ap (λ b. edited_by b e (map (bears x) (marks_of n lists))) (contains-empty nat_cmp x)
    ∙ ap (edited_by false e) (none_behind lists n x far)
    ∙ sym (edited_map (λ s. false) e set.empty (marks_of n lists)))

-- no edit leaves more rows than there were and those that it adds
pub count_most : (n : ℕ) (e : RowEdit) → count_after n e ≤ n + added e
count_most n (Insert p) = omega arith
count_most n (Delete p q) = omega arith
count_most n (Copy p q r) = omega arith
count_most n (Swap p q) = omega arith
count_most n (Rotate p q k) = omega arith
count_most n (Dup p q) = omega arith

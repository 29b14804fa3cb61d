-- Rows' letters, told by the lists of the letters.
--
-- What a list says: `column_marked`, `none_behind`. Sets that the lists tell: `marks_are`.
use Rattle.std.proofs.Common.{◌≡◌, ℕ, zero, suc, ◌+◌, ◌<◌, ◌≤◌, ◌&&◌, ◌||◌, ◌⊎◌, inl, inr, Bool, true, false, List, length}
use Rattle.std.proofs.Common.{◌≢◌, cond, eqb, map, get_or, nat_eq, refl, sym, ap, ◌∙◌, arith}
use Rattle.std.specs.List.{count_by, filter, list_any, range_with_len}
use Rattle.std.specs.FinSet as set
use Rattle.std.specs.FinSet.{nat_cmp-IsAntisymmetric}
use Rattle.std.specs.Cmp.{nat_cmp_total}
use Rattle.std.proofs.lemmas.Bool.{cases_lt, eqb-true, eq-eqb}
use Rattle.std.proofs.lemmas.Bool.Decides.{eqb_tells}
use Rattle.std.proofs.Math.Bool.{and-true, and-false}
use Rattle.std.proofs.lemmas.List.{get_or-map, length-map, get_or_default, same_lists}
use Rattle.std.proofs.lemmas.List.FromFn.{fill_by_all, length-map-range_with_len, get_or-map-range_with_len}
use Rattle.std.proofs.lemmas.List.FromFn.{length-range_with_len, get_or-range_with_len}
use Rattle.std.proofs.lemmas.List.Folds.{list_any_at, fold-map}
use Rattle.std.proofs.lemmas.Map.Views.{any-filter_same}
use Rattle.bit_table_layout.specs.LetterSets.{LetterSet, letter_count, bears}
use Rattle.bit_table_rows.specs.Marks.{list_of, letters_at, marks_of}

-- a number below n is among the first n numbers
found : (x n : ℕ) → x < n → list_any (λ y. nat_eq y x) (range_with_len 0 n) ≡ true
found x n low =
    list_any_at (λ y. nat_eq y x) (range_with_len 0 n) x 0 (omega (arith, length-range_with_len 0 n))
    (eq-eqb _ x (omega (arith, get_or-range_with_len 0 n x 0 low)))

other : (a b : ℕ) → ((eqb a b ≡ true) × (a ≡ b)) ⊎ ((eqb a b ≡ false) × (a ≢ b)) → a < b → nat_eq a b ≡ false
other a b (inl same) less = absurd (omega (arith, same.1, less))
other a b (inr told) less = told.0

-- one from n on is not
unfound : (x a n : ℕ) → a + n ≤ x → list_any (λ y. nat_eq y x) (range_with_len a n) ≡ false
unfound x a zero far = refl
unfound x a (suc n) far =
    ap (λ b. b || list_any (λ y. nat_eq y x) (range_with_len (a + 1) n)) (other a x (eqb_tells a x) (omega arith))
    ∙ unfound x (a + 1) n (omega arith)

module _ (lists : List (List Bool)) (k : ℕ) where
  abbrev marked : ℕ → Bool
  marked x = get_or (list_of lists x) k false

  letters_told : (x : ℕ) → bears x (letters_at lists k) ≡ (marked x && list_any (λ y. nat_eq y x) (range_with_len 0 letter_count))
  letters_told x =
      set.contains-from_list_nat (filter marked (range_with_len 0 letter_count)) x
      ∙ any-filter_same (λ y. nat_eq y x) marked (marked x) (λ y same. ap marked (eqb-true y x same)) (range_with_len 0 letter_count)

  -- a letter of the alphabet, by its list
  pub bears_here : (x : ℕ) → x < letter_count → bears x (letters_at lists k) ≡ marked x
  bears_here x low = letters_told x ∙ ap (λ b. marked x && b) (found x letter_count low) ∙ and-true (marked x)

  -- there is no other
  pub bears_nothing : (x : ℕ) → letter_count ≤ x → bears x (letters_at lists k) ≡ false
  bears_nothing x far = letters_told x ∙ ap (λ b. marked x && b) (unfound x 0 letter_count far) ∙ and-false (marked x)

module _ (lists : List (List Bool)) (n : ℕ) where
  pub length-marks : length (marks_of n lists) ≡ n
  length-marks = length-map-range_with_len (letters_at lists) 0 n

  -- the list of a letter tells which rows bear it
  pub column_marked : (x : ℕ) → x < letter_count → length (list_of lists x) ≡ n
      → map (bears x) (marks_of n lists) ≡ list_of lists x
  column_marked x low size =
      same_lists _ _ (length-map (marks_of n lists) (bears x) ∙ length-marks ∙ sym size)
      (λ k d h. let below : k < n = omega (arith, length-map (marks_of n lists) (bears x), length-marks) in
      get_or-map (bears x) (marks_of n lists) k (letters_at lists k) d (omega (arith, length-marks))
      ∙ ap (bears x) (get_or-map-range_with_len (letters_at lists) 0 n k k (letters_at lists k) below (omega arith))
      ∙ bears_here lists k x low
      ∙ get_or_default (list_of lists x) k false d (omega arith))

  -- no row bears anything else
  pub none_behind : (x : ℕ) → letter_count ≤ x → map (bears x) (marks_of n lists) ≡ map (λ s. false) (marks_of n lists)
  none_behind x far =
      same_lists _ _ (length-map (marks_of n lists) (bears x) ∙ sym (length-map (marks_of n lists) (λ s. false)))
      (λ k d h. let below : k < n = omega (arith, length-map (marks_of n lists) (bears x), length-marks) in
      get_or-map (bears x) (marks_of n lists) k (letters_at lists k) d (omega (arith, length-marks))
      ∙ ap (bears x) (get_or-map-range_with_len (letters_at lists) 0 n k k (letters_at lists k) below (omega arith))
      ∙ bears_nothing lists k x far
      ∙ sym (get_or-map (λ s. false) (marks_of n lists) k (letters_at lists k) d (omega (arith, length-marks))))

  -- sets of letters that the lists tell are the rows' letters
  pub marks_are : (sets : List LetterSet) → length sets ≡ n
      → ((x : ℕ) → x < letter_count → map (bears x) sets ≡ list_of lists x)
      → ((x : ℕ) → letter_count ≤ x → map (bears x) sets ≡ map (λ s. false) sets)
      → marks_of n lists ≡ sets
  marks_are sets size told nothing =
      sym (fill_by_all (letters_at lists) sets n (set.empty) size
      (λ k low. set.same_set nat_cmp_total nat_cmp-IsAntisymmetric _ _ (λ x. same_at k low x (cases_lt x letter_count))))
    where
      same_at : (k : ℕ) → k < n → (x : ℕ) → (x < letter_count) ⊎ (letter_count ≤ x)
          → bears x (get_or sets k set.empty) ≡ bears x (letters_at lists k)
      same_at k low x (inl here) =
          sym (get_or-map (bears x) sets k set.empty false (omega arith))
          ∙ ap (λ l. get_or l k false) (told x here) ∙ sym (bears_here lists k x here)
      same_at k low x (inr far) =
          sym (get_or-map (bears x) sets k set.empty false (omega arith))
          ∙ ap (λ l. get_or l k false) (nothing x far)
          ∙ get_or-map (λ s. false) sets k set.empty false (omega arith)
          ∙ sym (bears_nothing lists k x far)

-- the ones that a test gives, counted
pub ones_mapped : {A : Type 0} (test : A → Bool) (xs : List A) → count_by (λ b. b) (map test xs) ≡ count_by test xs
ones_mapped test xs = fold-map (λ a b. a + cond b 1 0) test 0 xs

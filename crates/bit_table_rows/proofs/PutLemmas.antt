-- The list of one letter replaced.
--
-- At one row: `marks_put`; at rows one behind the other: `marks_told`. At each row by what the row bears:
-- `marks_decided`.
use Rattle.std.proofs.Common.{◌≡◌, ◌≢◌, ℕ, zero, suc, ◌+◌, ◌<◌, ◌≤◌, ◌⊎◌, inl, inr}
use Rattle.std.proofs.Common.{◌&&◌, ◌||◌, not, Bool, true, false, List, [], ◌∷◌}
use Rattle.std.specs.Prelude.{if◌then◌else◌}
use Rattle.std.proofs.Common.{length, map, replicate, set as put, get_or, eqb, nat_eq, refl, sym, ap, ◌∙◌, arith}
use Rattle.std.specs.Ordering.{nat_cmp}
use Rattle.std.specs.FinSet as set
use Rattle.std.specs.FinSet.{nat_cmp-IsAntisymmetric}
use Rattle.std.specs.Cmp.{nat_cmp_total, unsigned_tied}
use Rattle.std.proofs.lemmas.Bool.{cases_lt}
use Rattle.std.proofs.lemmas.Bool.Decides.{eqb_tells}
use Rattle.std.proofs.lemmas.List.{get_or-map, length-map, length-set, get_or-set_same, get_or-set_other, same_lists}
use Rattle.std.proofs.lemmas.List.{get_or_past, length-replicate}
use Rattle.std.proofs.lemmas.List.FromFn.{get_or-map-range_with_len}
use Rattle.bit_addressing_memory.specs.Memory.{with_piece}
use Rattle.bit_addressing_memory.proofs.MemoryLemmas.{with_piece_below, with_piece_inside, with_piece_above}
use Rattle.bit_table_layout.specs.LetterSets.{LetterSet, letter_count, bears, with_letter}
use Rattle.bit_table_rows.specs.Marks.{list_of, letters_at, marks_of, decided, TellsRows}
use Rattle.bit_table_rows.proofs.MarkLemmas.{bears_here, bears_nothing, length-marks, marks_are}

chosen_or : (t b : Bool) → (t || b) ≡ (if t then true else b)
chosen_or true b = refl
chosen_or false b = refl

chosen_and : (t b : Bool) → (not t && b) ≡ (if t then false else b)
chosen_and true b = refl
chosen_and false b = refl

-- what a row bears that was made to bear x, or not
pub bears_with : (x y : ℕ) (b : Bool) (s : LetterSet) → bears y (with_letter x b s) ≡ (if nat_eq y x then b else bears y s)
bears_with x y true s =
    set.contains-insert nat_cmp_total s x y ∙ ap (λ t. t || bears y s) (unsigned_tied y x)
    ∙ chosen_or (nat_eq y x) (bears y s)
bears_with x y false s =
    set.contains-remove nat_cmp_total s x y ∙ ap (λ t. not t && bears y s) (unsigned_tied y x)
    ∙ chosen_and (nat_eq y x) (bears y s)

-- the list of letter y where that of letter x is another
list_replaced : (lists : List (List Bool)) (x y : ℕ) (c : List Bool) → x < length lists
    → list_of (put lists x c) y ≡ (if nat_eq y x then c else list_of lists y)
list_replaced lists x y c low = by_cases (eqb_tells y x) where
  by_cases : ((eqb y x ≡ true) × (y ≡ x)) ⊎ ((eqb y x ≡ false) × (y ≢ x))
      → list_of (put lists x c) y ≡ (if nat_eq y x then c else list_of lists y)
  by_cases (inl same) =
      ap (list_of (put lists x c)) same.1 ∙ get_or-set_same lists x c [] low
      ∙ sym (ap (λ t. if t then c else list_of lists y) same.0)
  by_cases (inr apart) =
      get_or-set_other lists x y c [] apart.1 ∙ sym (ap (λ t. if t then c else list_of lists y) apart.0)

module _ (lists : List (List Bool)) (x : ℕ) (c : List Bool) (count : length lists ≡ letter_count)
    (low : x < letter_count) where
  -- what row k bears where the list of letter x is another
  letters_replaced : (k : ℕ) → letters_at (put lists x c) k ≡ with_letter x (get_or c k false) (letters_at lists k)
  letters_replaced k =
      set.same_set nat_cmp_total nat_cmp-IsAntisymmetric _ _ (λ y. told y (cases_lt y letter_count)) where
        now : Bool
        now = get_or c k false

        told : (y : ℕ) → (y < letter_count) ⊎ (letter_count ≤ y)
            → bears y (letters_at (put lists x c) k) ≡ bears y (with_letter x now (letters_at lists k))
        told y (inl here) =
            bears_here (put lists x c) k y here
            ∙ ap (λ l. get_or l k false) (list_replaced lists x y c (omega (arith, count, low)))
            ∙ chosen_list (nat_eq y x)
            ∙ ap (λ b. if nat_eq y x then now else b) (sym (bears_here lists k y here))
            ∙ sym (bears_with x y now (letters_at lists k))
          where
            chosen_list : (t : Bool)
                → get_or (if t then c else list_of lists y) k false ≡ (if t then now else get_or (list_of lists y) k false)
            chosen_list true = refl
            chosen_list false = refl
        told y (inr far) =
            bears_nothing (put lists x c) k y far ∙ sym (bears_nothing lists k y far)
            ∙ sym (ap (λ t. if t then now else bears y (letters_at lists k)) (is_other (eqb_tells y x)))
            ∙ sym (bears_with x y now (letters_at lists k))
          where
            is_other : ((eqb y x ≡ true) × (y ≡ x)) ⊎ ((eqb y x ≡ false) × (y ≢ x)) → nat_eq y x ≡ false
            is_other (inl same) = absurd (omega (arith, same.1, low, far))
            is_other (inr apart) = apart.0

-- a row made to bear x where it does, or not where it does not, is as it was
with_same : (x : ℕ) (s : LetterSet) → with_letter x (bears x s) s ≡ s
with_same x s =
    set.same_set nat_cmp_total nat_cmp-IsAntisymmetric _ _ (λ y. bears_with x y (bears x s) s ∙ is_its (eqb_tells y x)) where
      is_its : {y : ℕ} → ((eqb y x ≡ true) × (y ≡ x)) ⊎ ((eqb y x ≡ false) × (y ≢ x))
          → (if nat_eq y x then bears x s else bears y s) ≡ bears y s
      is_its {y} (inl same) =
          ap (λ t. if t then bears x s else bears y s) same.0 ∙ ap (λ z. bears z s) (sym same.1)
      is_its {y} (inr apart) = ap (λ t. if t then bears x s else bears y s) apart.0

module _ (lists : List (List Bool)) (n x : ℕ) (count : length lists ≡ letter_count) (low : x < letter_count) where
  -- row j's letters, read
  mark_at : (other : List (List Bool)) (j : ℕ) (d : LetterSet) → j < n → get_or (marks_of n other) j d ≡ letters_at other j
  mark_at other j d below = get_or-map-range_with_len (letters_at other) 0 n j j d below (omega arith)

  -- letter x decided row by row
  pub marks_decided : (decide : LetterSet → Bool)
      → marks_of n (put lists x (map decide (marks_of n lists))) ≡ decided x decide (marks_of n lists)
  marks_decided decide =
      let size = length-marks lists n in
      let after = put lists x (map decide (marks_of n lists)) in
      same_lists _ _ (length-marks after n ∙ sym (length-map (marks_of n lists) (λ s. with_letter x (decide s) s) ∙ size))
      (λ j d h. let below : j < n = omega (arith, length-marks after n) in
      mark_at after j d below ∙ letters_replaced lists x (map decide (marks_of n lists)) count low j
      ∙ ap (λ b. with_letter x b (letters_at lists j))
      (get_or-map decide (marks_of n lists) j d false (omega (arith, size)) ∙ ap decide (mark_at lists j d below))
      ∙ sym (get_or-map (λ s. with_letter x (decide s) s) (marks_of n lists) j d d (omega (arith, size))
      ∙ ap (λ s. with_letter x (decide s) s) (mark_at lists j d below)))

  -- letter x decided at row k alone
  pub marks_put : (k : ℕ) (b : Bool) → k < n → length (list_of lists x) ≡ n
      → marks_of n (put lists x (put (list_of lists x) k b))
      ≡ put (marks_of n lists) k (with_letter x b (get_or (marks_of n lists) k set.empty))
  marks_put k b inside size =
      same_lists _ _ (length-marks after n ∙ sym (length-set (marks_of n lists) k now ∙ length-marks lists n))
      (λ j d h. let below : j < n = omega (arith, length-marks after n) in
      mark_at after j d below ∙ letters_replaced lists x (put (list_of lists x) k b) count low j
      ∙ at_row j d below (eqb_tells j k)) where
        after : List (List Bool)
        after = put lists x (put (list_of lists x) k b)

        now : LetterSet
        now = with_letter x b (get_or (marks_of n lists) k set.empty)

        at_row : (j : ℕ) (d : LetterSet) → j < n → ((eqb j k ≡ true) × (j ≡ k)) ⊎ ((eqb j k ≡ false) × (j ≢ k))
            → with_letter x (get_or (put (list_of lists x) k b) j false) (letters_at lists j)
            ≡ get_or (put (marks_of n lists) k now) j d
        at_row j d below (inl same) =
            ap (λ i. with_letter x (get_or (put (list_of lists x) k b) i false) (letters_at lists i)) same.1
            ∙ ap (λ v. with_letter x v (letters_at lists k)) (get_or-set_same (list_of lists x) k b false (omega (arith, size)))
            ∙ ap (with_letter x b) (sym (mark_at lists k set.empty inside))
            ∙ sym (get_or-set_same (marks_of n lists) k now d (omega (arith, length-marks lists n)))
            ∙ ap (λ i. get_or (put (marks_of n lists) k now) i d) (sym same.1)
        at_row j d below (inr apart) =
            ap (λ v. with_letter x v (letters_at lists j))
            (get_or-set_other (list_of lists x) k j b false apart.1 ∙ sym (bears_here lists j x low))
            ∙ with_same x (letters_at lists j)
            ∙ sym (get_or-set_other (marks_of n lists) k j now d apart.1 ∙ mark_at lists j d below)

  -- letter x as each of m rows from one on is told
  pub marks_told : (first m : ℕ) (told : ℕ → Bool) (ys : List Bool) → first + m ≤ n → length (list_of lists x) ≡ n
      → length ys ≡ m → ((k : ℕ) → k < m → get_or ys k false ≡ told k)
      → TellsRows x first m told (marks_of n lists) (marks_of n (put lists x (with_piece (list_of lists x) first ys)))
  marks_told first m told ys within size long same = record {
    there = λ k below.
        replaced (first + k) (omega (arith, within, below))
        ∙ ap (λ b. with_letter x b (get_or (marks_of n lists) (first + k) set.empty))
        (with_piece_inside (list_of lists x) first ys (first + k) k false fits refl (omega (arith, long, below)) ∙ same k below);
    below = λ k early.
        kept k (omega (arith, within, early)) (with_piece_below (list_of lists x) first ys k false fits early);
    above = λ k late. elim (cases_lt k n) [
      | inl inside ↦ kept k inside (with_piece_above (list_of lists x) first ys k false fits (omega (arith, long, late)))
      | inr past ↦
          get_or_past (marks_of n after) k set.empty (omega (arith, length-marks after n, past))
          ∙ sym (get_or_past (marks_of n lists) k set.empty (omega (arith, length-marks lists n, past)))
    ];
    len = length-marks after n ∙ sym (length-marks lists n);
  } where
    now : List Bool
    now = with_piece (list_of lists x) first ys

    after : List (List Bool)
    after = put lists x now

    fits : first + length ys ≤ length (list_of lists x)
    fits = omega (arith, within, size, long)

    replaced : (k : ℕ) → k < n → get_or (marks_of n after) k set.empty
        ≡ with_letter x (get_or now k false) (get_or (marks_of n lists) k set.empty)
    replaced k inside =
        mark_at after k set.empty inside ∙ letters_replaced lists x now count low k
        ∙ ap (with_letter x (get_or now k false)) (sym (mark_at lists k set.empty inside))

    kept : (k : ℕ) → k < n → get_or now k false ≡ get_or (list_of lists x) k false
        → get_or (marks_of n after) k set.empty ≡ get_or (marks_of n lists) k set.empty
    kept k inside still =
        mark_at after k set.empty inside ∙ letters_replaced lists x now count low k
        ∙ ap (λ b. with_letter x b (letters_at lists k)) (still ∙ sym (bears_here lists k x low))
        ∙ with_same x (letters_at lists k) ∙ sym (mark_at lists k set.empty inside)

replicate_mapped : {A B : Type 0} (f : A → B) (n : ℕ) (x : A) → map f (replicate n x) ≡ replicate n (f x)
replicate_mapped f zero x = refl
replicate_mapped f (suc n) x = ap (λ l. f x ∷ l) (replicate_mapped f n x)

-- rows whose letters' lists have no one bear none
pub marks_blank : (n : ℕ) (lists : List (List Bool))
    → ((x : ℕ) → x < letter_count → list_of lists x ≡ replicate n false) → marks_of n lists ≡ replicate n set.empty
marks_blank n lists blank =
    marks_are lists n (replicate n set.empty) (length-replicate n set.empty)
    (λ x low. told x ∙ sym (blank x low))
    (λ x far. told x ∙ sym (replicate_mapped (λ s. false) n set.empty))
  where
    told : (x : ℕ) → map (bears x) (replicate n set.empty) ≡ replicate n false
    told x = replicate_mapped (bears x) n set.empty ∙ ap (replicate n) (set.contains-empty nat_cmp x)

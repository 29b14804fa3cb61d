-- Rows that are kept, one after another: their numbers, how many they are, and their bits end to end.
--
-- One row more: `left_next`, `left_stays`, `joined_next`, `joined_stays`; several: `joined_run`, `run_stays`. How many:
-- `more_left`, `more_run`, `few_left`, `count_left`, `length-rows_left`. Their bits: `length-joined`, and of a longer list
-- `joined_part`. Elements that stay: `left_of_next`, `left_of_stays`, `left_of-map`, `left_of-filter`.
use Rattle.std.proofs.Common.{◌≡◌, ℕ, zero, suc, ◌+◌, ◌-◌, ◌*◌, ◌<◌, ◌≤◌, ◌++◌, Bool, true, false, cond, not, List, []}
use Rattle.std.proofs.Common.{◌∷◌, length, take, get_or, refl, sym, ap, ◌∙◌, arith, add-one, add-mul, length-append}
use Rattle.std.proofs.Common.{ap₂, inl, inr, length-take-le, map, subst}
use Rattle.std.proofs.lemmas.Bool.{cases_Bool}
use Rattle.std.proofs.lemmas.Grind.{flat_map-append}
use Rattle.std.proofs.lemmas.List.{append-nil, append_assoc, map-id, take_all, take_more}
use Rattle.std.proofs.lemmas.List.FromFn.{filter_of_map_range_with_len_more}
use Rattle.std.proofs.lemmas.List.Sums.{count_by_more_no, count_by_more_yes}
use Rattle.std.specs.List.{count_by, filter, range_with_len}
use Rattle.bit_addressing_memory.proofs.MemoryLemmas.{length-piece, piece_join, piece_none, piece_piece}
use Rattle.bit_addressing_memory.specs.Memory.{piece}
use Rattle.bit_table_rows.proofs.RowLemmas.{row_end}
use Rattle.bit_table_rows.specs.RowMoves.{row_at}
use Rattle.bit_table_rows.specs.RowsKept.{left_before, left_of, rows_joined, rows_left}

-- ---- one row more

left_more : (off : List Bool) (n : ℕ)
    → left_before off (n + 1) ≡ left_before off n ++ cond (not (get_or off n false)) (n ∷ []) []
left_more off n =
    let keeps = λ (k : ℕ). not (get_or off k false) in
    ap (filter keeps) (sym (map-id (range_with_len 0 (n + 1))))
    ∙ filter_of_map_range_with_len_more keeps (λ k. k) 0 n n (omega arith)
    ∙ ap (λ ks. filter keeps ks ++ cond (not (get_or off n false)) (n ∷ []) []) (map-id (range_with_len 0 n))

-- one that stays
pub left_next : (off : List Bool) (n : ℕ) → get_or off n false ≡ false
    → left_before off (n + 1) ≡ left_before off n ++ n ∷ []
left_next off n is = left_more off n ∙ ap (λ b. left_before off n ++ cond (not b) (n ∷ []) []) is

-- one that goes
pub left_stays : (off : List Bool) (n : ℕ) → get_or off n false ≡ true → left_before off (n + 1) ≡ left_before off n
left_stays off n is =
    left_more off n
    ∙ ap (λ b. left_before off n ++ cond (not b) (n ∷ []) []) is
    ∙ append-nil (left_before off n)

pub joined_next : (w : ℕ) (bits off : List Bool) (n : ℕ) → get_or off n false ≡ false
    → rows_joined w bits (left_before off (n + 1)) ≡ rows_joined w bits (left_before off n) ++ row_at w bits n
joined_next w bits off n is =
    ap (rows_joined w bits) (left_next off n is)
    ∙ flat_map-append (row_at w bits) (left_before off n) (n ∷ [])
    ∙ ap (λ xs. rows_joined w bits (left_before off n) ++ xs) (append-nil (row_at w bits n))

pub joined_stays : (w : ℕ) (bits off : List Bool) (n : ℕ) → get_or off n false ≡ true
    → rows_joined w bits (left_before off (n + 1)) ≡ rows_joined w bits (left_before off n)
joined_stays w bits off n is = ap (rows_joined w bits) (left_stays off n is)

-- several that stay, one behind the other
pub joined_run : (w : ℕ) (bits off : List Bool) (k m : ℕ) → ((i : ℕ) → i < m → get_or off (k + i) false ≡ false)
    → rows_joined w bits (left_before off (k + m))
    ≡ rows_joined w bits (left_before off k) ++ piece bits (k * w) (m * w)
joined_run w bits off k zero stay =
    let here : k + 0 ≡ k = omega arith in
    let none : 0 * w ≡ 0 = omega arith in
    ap (λ n. rows_joined w bits (left_before off n)) here
    ∙ sym (append-nil (rows_joined w bits (left_before off k)))
    ∙ ap (λ xs. rows_joined w bits (left_before off k) ++ xs) (sym (piece_none bits (k * w) (0 * w) none))
joined_run w bits off k (suc m) stay =
    let next : k + suc m ≡ k + m + 1 = omega arith in
    let before = joined_run w bits off k m (λ i low. stay i (omega arith)) in
    let place : (k + m) * w ≡ k * w + m * w = add-mul k m w in
    let size : suc m * w ≡ m * w + w = omega arith in
    ap (λ n. rows_joined w bits (left_before off n)) next
    ∙ joined_next w bits off (k + m) (stay m (omega arith))
    ∙ ap (λ xs. xs ++ row_at w bits (k + m)) before
    ∙ append_assoc (rows_joined w bits (left_before off k)) (piece bits (k * w) (m * w)) (row_at w bits (k + m))
    ∙ ap (λ xs. rows_joined w bits (left_before off k) ++ xs)
    (piece_join bits (k * w) (m * w) ((k + m) * w) w (suc m * w) place size)

-- the first of them and those behind it
pub run_stays : (off : List Bool) (k upto : ℕ) → get_or off k false ≡ false
    → ((i : ℕ) → k + 1 ≤ i → i < upto → get_or off i false ≡ false)
    → (i : ℕ) → i < upto - k → get_or off (k + i) false ≡ false
run_stays off k upto first behind zero low =
    let here : k + 0 ≡ k = omega arith in
    ap (λ n. get_or off n false) here ∙ first
run_stays off k upto first behind (suc i) low = behind (k + suc i) (omega arith) (omega arith)

-- ---- sizes

pub more_left : (off : List Bool) (n : ℕ) → get_or off n false ≡ false
    → length (left_before off (n + 1)) ≡ length (left_before off n) + 1
more_left off n is = ap length (left_next off n is) ∙ length-append (left_before off n) (n ∷ [])

pub more_run : (off : List Bool) (k m : ℕ) → ((i : ℕ) → i < m → get_or off (k + i) false ≡ false)
    → length (left_before off (k + m)) ≡ length (left_before off k) + m
more_run off k zero stay =
    let here : k + 0 ≡ k = omega arith in
    ap (λ n. length (left_before off n)) here ∙ omega arith
more_run off k (suc m) stay =
    let next : k + suc m ≡ k + m + 1 = omega arith in
    let before = more_run off k m (λ i low. stay i (omega arith)) in
    ap (λ n. length (left_before off n)) next ∙ more_left off (k + m) (stay m (omega arith)) ∙ omega arith

-- no more rows stay than there are
pub few_left : (off : List Bool) (n : ℕ) → length (left_before off n) ≤ n
few_left off zero = omega arith
few_left off (suc n) =
    let before = few_left off n in
    subst (λ m. length (left_before off m) ≤ m) (add-one n) (elim (cases_Bool (get_or off n false)) [
      | inl goes ↦ omega (arith, ap length (left_stays off n goes))
      | inr stays ↦ omega (arith, more_left off n stays)
    ])

-- as many as there are false flags
pub count_left : (off : List Bool) (n : ℕ) → n ≤ length off → length (left_before off n) ≡ count_by not (take n off)
count_left off zero within = refl
count_left off (suc n) within =
    let before = count_left off n (omega arith) in
    let low : n < length off = omega arith in
    subst (λ m. length (left_before off m) ≡ count_by not (take m off)) (add-one n)
    (elim (cases_Bool (get_or off n false)) [
      | inl goes ↦
          ap length (left_stays off n goes)
          ∙ before
          ∙ sym (count_by_more_no not off n false low (ap not goes))
      | inr stays ↦
          more_left off n stays
          ∙ ap (λ m. m + 1) before
          ∙ sym (count_by_more_yes not off n false low (ap not stays))
    ])

pub length-rows_left : (off : List Bool) → length (rows_left off) ≡ count_by not off
length-rows_left off =
    count_left off (length off) (omega arith) ∙ ap (count_by not) (take_all (length off) off (omega arith))

-- each of w bits
pub length-joined : (w : ℕ) (bits off : List Bool) (n : ℕ) → n * w ≤ length bits
    → length (rows_joined w bits (left_before off n)) ≡ length (left_before off n) * w
length-joined w bits off zero within = omega arith
length-joined w bits off (suc n) within =
    let next : (n + 1) * w ≡ n * w + 1 * w = add-mul n 1 w in
    let all : (n + 1) * w ≤ length bits = rw (add-one n) within in
    let before = length-joined w bits off n (omega arith) in
    subst (λ m. length (rows_joined w bits (left_before off m)) ≡ length (left_before off m) * w) (add-one n)
    (elim (cases_Bool (get_or off n false)) [
      | inl goes ↦
          ap length (joined_stays w bits off n goes)
          ∙ before
          ∙ sym (ap (λ m. m * w) (ap length (left_stays off n goes)))
      | inr stays ↦
          let row : length (row_at w bits n) ≡ w = length-piece bits (n * w) w (omega arith) in
          let more : (length (left_before off n) + 1) * w ≡ length (left_before off n) * w + 1 * w =
          add-mul (length (left_before off n)) 1 w in
          let both : length (rows_joined w bits (left_before off n)) + length (row_at w bits n)
          ≡ (length (left_before off n) + 1) * w = omega arith in
          ap length (joined_next w bits off n stays)
          ∙ length-append (rows_joined w bits (left_before off n)) (row_at w bits n)
          ∙ both
          ∙ sym (ap (λ m. m * w) (more_left off n stays))
    ])

-- ---- the rows of two lists

-- equal rows, end to end
joined_same : (w : ℕ) (xs ys off : List Bool) (n : ℕ) → ((k : ℕ) → k < n → row_at w xs k ≡ row_at w ys k)
    → rows_joined w xs (left_before off n) ≡ rows_joined w ys (left_before off n)
joined_same w xs ys off zero same = refl
joined_same w xs ys off (suc n) same =
    let before = joined_same w xs ys off n (λ k low. same k (omega arith)) in
    subst (λ m. rows_joined w xs (left_before off m) ≡ rows_joined w ys (left_before off m)) (add-one n)
    (elim (cases_Bool (get_or off n false)) [
      | inl goes ↦ joined_stays w xs off n goes ∙ before ∙ sym (joined_stays w ys off n goes)
      | inr stays ↦
          joined_next w xs off n stays
          ∙ ap (λ zs. zs ++ row_at w xs n) before
          ∙ ap (λ row. rows_joined w ys (left_before off n) ++ row) (same n (omega arith))
          ∙ sym (joined_next w ys off n stays)
    ])

-- the first n rows of a longer list
pub joined_part : (w : ℕ) (bits off : List Bool) (place len n : ℕ) → n * w ≤ len
    → rows_joined w (piece bits place len) (left_before off n)
    ≡ rows_joined w (piece bits place (n * w)) (left_before off n)
joined_part w bits off place len n within =
    joined_same w (piece bits place len) (piece bits place (n * w)) off n (λ k low.
    let inside = row_end k n w low in
    piece_piece bits place len (k * w) w (omega arith)
    ∙ sym (piece_piece bits place (n * w) (k * w) w inside))

-- ---- the elements that stay

-- of two lists end to end
left_of-append : {X : Type 0} (cs bs : List Bool) (xs ys : List X) → length cs ≡ length xs
    → left_of (cs ++ bs) (xs ++ ys) ≡ left_of cs xs ++ left_of bs ys
unfolding left_of
left_of-append [] bs [] ys same = refl
left_of-append [] bs (x ∷ xs) ys same = absurd (omega (arith, same))
left_of-append (a ∷ cs) bs [] ys same = absurd (omega (arith, same))
left_of-append (true ∷ cs) bs (x ∷ xs) ys same = left_of-append cs bs xs ys (omega (arith, same))
left_of-append (false ∷ cs) bs (x ∷ xs) ys same = ap (λ zs. x ∷ zs) (left_of-append cs bs xs ys (omega (arith, same)))

-- one element, by its flag
one_stays : {X : Type 0} (xs : List X) → length xs ≡ 1 → left_of (false ∷ []) xs ≡ xs
unfolding left_of
one_stays [] one = absurd (omega (arith, one))
one_stays (x ∷ []) one = refl
one_stays (x ∷ y ∷ ys) one = absurd (omega (arith, one))

one_goes : {X : Type 0} (xs : List X) → length xs ≡ 1 → left_of (true ∷ []) xs ≡ []
unfolding left_of
one_goes [] one = absurd (omega (arith, one))
one_goes (x ∷ xs) one = refl

module _ {X : Type 0} (off : List Bool) (xs : List X) (n : ℕ) (low : n < length off) (here : n < length xs) where
  one_more : take (n + 1) xs ≡ take n xs ++ piece xs n 1
  unfolding piece
  one_more = sym (piece_join xs 0 n n 1 (n + 1) (omega arith) refl)

  flagged : (b : Bool) → get_or off n false ≡ b
      → left_of (take (n + 1) off) (take (n + 1) xs)
      ≡ left_of (take n off) (take n xs) ++ left_of (b ∷ []) (piece xs n 1)
  flagged b is =
      let sizes : length (take n off) ≡ length (take n xs) =
      length-take-le n off (omega arith) ∙ sym (length-take-le n xs (omega arith)) in
      ap₂ left_of (take_more off n false low ∙ ap (λ c. take n off ++ c ∷ []) is) one_more
      ∙ left_of-append (take n off) (b ∷ []) (take n xs) (piece xs n 1) sizes

  -- one more that stays
  pub left_of_next : get_or off n false ≡ false
      → left_of (take (n + 1) off) (take (n + 1) xs) ≡ left_of (take n off) (take n xs) ++ piece xs n 1
  left_of_next stays =
      flagged false stays
      ∙ ap (λ ys. left_of (take n off) (take n xs) ++ ys)
      (one_stays (piece xs n 1) (length-piece xs n 1 (omega arith)))

  -- and one that goes
  pub left_of_stays : get_or off n false ≡ true
      → left_of (take (n + 1) off) (take (n + 1) xs) ≡ left_of (take n off) (take n xs)
  left_of_stays goes =
      flagged true goes
      ∙ ap (λ ys. left_of (take n off) (take n xs) ++ ys)
      (one_goes (piece xs n 1) (length-piece xs n 1 (omega arith)))
      ∙ append-nil (left_of (take n off) (take n xs))

-- of each element something else
pub left_of-map : {X Y : Type 0} (f : X → Y) (off : List Bool) (xs : List X)
    → map f (left_of off xs) ≡ left_of off (map f xs)
unfolding left_of
left_of-map f [] xs = refl
left_of-map f (goes ∷ off) [] = refl
left_of-map f (true ∷ off) (x ∷ xs) = left_of-map f off xs
left_of-map f (false ∷ off) (x ∷ xs) = ap (λ ys. f x ∷ ys) (left_of-map f off xs)

chosen : {X : Type 0} (b : Bool) (off : List Bool) (x : X) (xs ys : List X) → left_of off xs ≡ ys
    → left_of (b ∷ off) (x ∷ xs) ≡ cond (not b) (x ∷ ys) ys
unfolding left_of
chosen true off x xs ys rest = rest
chosen false off x xs ys rest = ap (λ zs. x ∷ zs) rest

-- those that a test does not flag
pub left_of-filter : {X : Type 0} (goes : X → Bool) (xs : List X)
    → left_of (map goes xs) xs ≡ filter (λ x. not (goes x)) xs
unfolding left_of
left_of-filter goes [] = refl
left_of-filter goes (x ∷ xs) =
    chosen (goes x) (map goes xs) x xs (filter (λ y. not (goes y)) xs) (left_of-filter goes xs)

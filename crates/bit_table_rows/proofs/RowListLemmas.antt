-- What an edit of the bits makes of the rows that are cut out of them: the same edit, by the rows' numbers. Each fact
-- is of n rows of w bits each, of any kind.
--
-- Parts: `front_rows`, `rows_behind`, `rows_between`, `row_alone`. Edits: `rows_inserted`, `rows_deleted`,
-- `rows_repeated`, `rows_written`, `rows_copied`, `rows_exchanged` and `exchanged_one`, `rows_turned`. Rows of one
-- bit: `bits_as_rows`.
use Rattle.std.proofs.Common.{◌≡◌, inl, inr, ℕ, ◌+◌, ◌-◌, ◌*◌, ◌<◌, ◌≤◌, Bool, List, [], ◌∷◌, ◌++◌, length, take, drop}
use Rattle.std.proofs.Common.{get_or, set, refl, sym, ap, ap₂, ◌∙◌, length-set, get_or-set_same, get_or-set_other}
use Rattle.std.proofs.Common.{arith, append_assoc, length-append, length-drop, length-take-le, take_at, drop_at}
use Rattle.std.proofs.Common.{take-append-drop}
use Rattle.std.specs.Prelude.{slice_range}
use Rattle.std.specs.List.{swap}
use Rattle.std.proofs.lemmas.Bool.{cases_eq}
use Rattle.std.proofs.lemmas.List.{drop_more, places, same_lists}
use Rattle.bit_addressing_memory.specs.Memory.{piece, with_piece}
use Rattle.bit_addressing_memory.proofs.MemoryLemmas.{length-piece, length-with_piece}
use Rattle.bit_table_rows.specs.RowEdits.{inserted, deleted, repeated, copied, exchanged, turned}
use Rattle.bit_table_rows.specs.RowLists.{CutsRows}
use Rattle.bit_table_rows.proofs.PlaceLemmas.{place_order, place_apart, place_behind, place_end, place_next}

-- bits are rows of one bit each
pub bits_as_rows : CutsRows 1 (λ n bits. bits)
bits_as_rows = record { count = λ n bits all. omega arith; joined = λ m n xs ys first rest. refl }

module _ {X : Type 0} (w : ℕ) (rows : ℕ → List Bool → List X) (cuts : CutsRows w rows) where
  -- ---- parts

  module _ (n p : ℕ) (bits : List Bool) (within : p ≤ n) (all : length bits ≡ n * w) where
    length-front : length (take (p * w) bits) ≡ p * w
    length-front = length-take-le (p * w) bits (omega (arith, place_order p n w within))

    length-behind : length (drop (p * w) bits) ≡ (n - p) * w
    length-behind = length-drop (p * w) bits ∙ ap (λ m. m - p * w) all ∙ place_apart p n w within

    cut : rows n bits ≡ rows p (take (p * w) bits) ++ rows (n - p) (drop (p * w) bits)
    cut =
        let count : n ≡ p + (n - p) = omega arith in
        ap₂ rows count (sym (take-append-drop (p * w) bits))
        ∙ cuts.joined p (n - p) (take (p * w) bits) (drop (p * w) bits) length-front length-behind

    -- the first p rows
    pub front_rows : rows p (take (p * w) bits) ≡ take p (rows n bits)
    front_rows =
        sym (ap (take p) cut
        ∙ take_at (rows p (take (p * w) bits)) (rows (n - p) (drop (p * w) bits)) p
        (cuts.count p (take (p * w) bits) length-front))

    -- the rows from p on
    pub rows_behind : rows (n - p) (drop (p * w) bits) ≡ drop p (rows n bits)
    rows_behind =
        sym (ap (drop p) cut
        ∙ drop_at (rows p (take (p * w) bits)) (rows (n - p) (drop (p * w) bits)) p
        (cuts.count p (take (p * w) bits) length-front))

  module _ (n p q : ℕ) (bits : List Bool) (order : p ≤ q) (within : q ≤ n) (all : length bits ≡ n * w) where
    length-between : length (slice_range bits (p * w) (q * w)) ≡ (q - p) * w
    length-between =
        let low : p ≤ n = omega arith in
        let lower = place_order p q w order in
        let upper = place_order q n w within in
        length-take-le (q * w - p * w) (drop (p * w) bits) (omega (arith, length-drop (p * w) bits))
        ∙ place_apart p q w order

    -- the rows from p up to before q
    pub rows_between : rows (q - p) (slice_range bits (p * w) (q * w)) ≡ slice_range (rows n bits) p q
    rows_between =
        let low : p ≤ n = omega arith in
        let m : ℕ = q - p in
        let rest : m ≤ n - p = omega arith in
        ap (λ k. rows m (take k (drop (p * w) bits))) (place_apart p q w order)
        ∙ front_rows (n - p) m (drop (p * w) bits) rest (length-behind n p bits low all)
        ∙ ap (take m) (rows_behind n p bits low all)

  -- ---- more and fewer

  -- m rows put in before row p
  pub rows_inserted : (n p m : ℕ) (bits ys : List Bool) → p ≤ n → length bits ≡ n * w → length ys ≡ m * w
      → rows (n + m) (inserted bits (p * w) ys) ≡ inserted (rows n bits) p (rows m ys)
  rows_inserted n p m bits ys within all size =
      let before = take (p * w) bits in
      let behind = drop (p * w) bits in
      let rest = length-behind n p bits within all in
      let count : n + m ≡ p + (m + (n - p)) = omega arith in
      let more : length (ys ++ behind) ≡ (m + (n - p)) * w =
      length-append ys behind ∙ omega (arith, place_behind m (n - p) w) in
      ap (λ k. rows k (before ++ (ys ++ behind))) count
      ∙ cuts.joined p (m + (n - p)) before (ys ++ behind) (length-front n p bits within all) more
      ∙ ap₂ (λ a b. a ++ b) (front_rows n p bits within all)
      (cuts.joined m (n - p) ys behind size rest ∙ ap (λ b. rows m ys ++ b) (rows_behind n p bits within all))

  -- the rows from p up to before q taken out
  pub rows_deleted : (n p q : ℕ) (bits : List Bool) → p ≤ q → q ≤ n → length bits ≡ n * w
      → rows (n - (q - p)) (deleted bits (p * w) (q * w)) ≡ deleted (rows n bits) p q
  rows_deleted n p q bits order within all =
      let low : p ≤ n = omega arith in
      let count : n - (q - p) ≡ p + (n - q) = omega arith in
      ap (λ k. rows k (deleted bits (p * w) (q * w))) count
      ∙ cuts.joined p (n - q) (take (p * w) bits) (drop (q * w) bits) (length-front n p bits low all)
      (length-behind n q bits within all)
      ∙ ap₂ (λ a b. a ++ b) (front_rows n p bits low all) (rows_behind n q bits within all)

  -- the rows from p up to before q once more
  pub rows_repeated : (n p q : ℕ) (bits : List Bool) → p ≤ q → q ≤ n → length bits ≡ n * w
      → rows (n + (q - p)) (repeated bits (p * w) (q * w)) ≡ repeated (rows n bits) p q
  rows_repeated n p q bits order within all =
      cuts.joined n (q - p) bits (slice_range bits (p * w) (q * w)) all (length-between n p q bits order within all)
      ∙ ap (λ b. rows n bits ++ b) (rows_between n p q bits order within all)

  -- ---- as many

  -- m rows written over those from row p on
  pub rows_written : (n p m : ℕ) (bits ys : List Bool) → p + m ≤ n → length bits ≡ n * w → length ys ≡ m * w
      → rows n (with_piece bits (p * w) ys) ≡ with_piece (rows n bits) p (rows m ys)
  unfolding with_piece
  rows_written n p m bits ys within all size =
      let low : p ≤ n = omega arith in
      let before = take (p * w) bits in
      let behind = drop ((p + m) * w) bits in
      let ends : p * w + length ys ≡ (p + m) * w = omega (arith, place_behind p m w) in
      let rest = length-behind n (p + m) bits within all in
      let count : n ≡ p + (m + (n - (p + m))) = omega arith in
      let more : length (ys ++ behind) ≡ (m + (n - (p + m))) * w =
      length-append ys behind ∙ omega (arith, place_behind m (n - (p + m)) w) in
      let back : p + length (rows m ys) ≡ p + m = ap (λ k. p + k) (cuts.count m ys size) in
      ap (rows n) (append_assoc before ys (drop (p * w + length ys) bits)
      ∙ ap (λ e. before ++ (ys ++ drop e bits)) ends)
      ∙ ap (λ k. rows k (before ++ (ys ++ behind))) count
      ∙ cuts.joined p (m + (n - (p + m))) before (ys ++ behind) (length-front n p bits low all) more
      ∙ ap₂ (λ a b. a ++ b) (front_rows n p bits low all)
      (cuts.joined m (n - (p + m)) ys behind size rest
      ∙ ap (λ b. rows m ys ++ b) (rows_behind n (p + m) bits within all))
      ∙ sym (append_assoc (take p (rows n bits)) (rows m ys) (drop (p + length (rows m ys)) (rows n bits))
      ∙ ap (λ e. take p (rows n bits) ++ (rows m ys ++ drop e (rows n bits))) back)

  -- the rows from p up to before q, as they were, written over those from r on
  pub rows_copied : (n p q r : ℕ) (bits : List Bool) → p ≤ q → q ≤ n → r + (q - p) ≤ n → length bits ≡ n * w
      → rows n (copied bits (p * w) (q * w) (r * w)) ≡ copied (rows n bits) p q r
  rows_copied n p q r bits order within target all =
      let m : ℕ = q - p in
      let low : r ≤ n = omega arith in
      let before = take (r * w) bits in
      let part = slice_range bits (p * w) (q * w) in
      let behind = drop ((r + m) * w) bits in
      let ends : r * w + (q * w - p * w) ≡ (r + m) * w = omega (arith, place_apart p q w order, place_behind r m w) in
      let size = length-between n p q bits order within all in
      let rest = length-behind n (r + m) bits target all in
      let count : n ≡ r + (m + (n - (r + m))) = omega arith in
      let more : length (part ++ behind) ≡ (m + (n - (r + m))) * w =
      length-append part behind ∙ omega (arith, size, rest, place_behind m (n - (r + m)) w) in
      ap (λ e. rows n (before ++ (part ++ drop e bits))) ends
      ∙ ap (λ k. rows k (before ++ (part ++ behind))) count
      ∙ cuts.joined r (m + (n - (r + m))) before (part ++ behind) (length-front n r bits low all) more
      ∙ ap₂ (λ a b. a ++ b) (front_rows n r bits low all)
      (cuts.joined m (n - (r + m)) part behind size rest
      ∙ ap₂ (λ a b. a ++ b) (rows_between n p q bits order within all) (rows_behind n (r + m) bits target all))

  -- row p alone
  pub row_alone : (n p : ℕ) (bits : List Bool) → p + 1 ≤ n → length bits ≡ n * w
      → rows 1 (piece bits (p * w) w) ≡ piece (rows n bits) p 1
  unfolding piece
  row_alone n p bits low all =
      let one : p + 1 - p ≡ 1 = omega arith in
      let wide : (p + 1) * w - p * w ≡ w = omega (arith, place_next p w) in
      ap₂ (λ m k. rows m (take k (drop (p * w) bits))) (sym one) (sym wide)
      ∙ rows_between n p (p + 1) bits (omega arith) low all
      ∙ ap (λ m. take m (drop p (rows n bits))) one

  -- rows p and q exchanged
  pub rows_exchanged : (n p q : ℕ) (bits : List Bool) → p + 1 ≤ n → q + 1 ≤ n → length bits ≡ n * w
      → rows n (exchanged bits (p * w) (q * w) w) ≡ exchanged (rows n bits) p q 1
  rows_exchanged n p q bits first second all =
      let to_p = piece bits (q * w) w in
      let to_q = piece bits (p * w) w in
      let low_p : p < n = omega arith in
      let low_q : q < n = omega arith in
      let in_p : p * w + w ≤ length bits = omega (arith, place_end p n w low_p) in
      let in_q : q * w + w ≤ length bits = omega (arith, place_end q n w low_q) in
      let size_p : length to_p ≡ 1 * w = length-piece bits (q * w) w in_q ∙ omega arith in
      let size_q : length to_q ≡ 1 * w = length-piece bits (p * w) w in_p ∙ omega arith in
      let room : p * w + length to_p ≤ length bits = omega (arith, size_p) in
      let now = with_piece bits (p * w) to_p in
      rows_written n q 1 now to_q second (length-with_piece bits (p * w) to_p room ∙ all) size_q
      ∙ ap₂ (λ a b. with_piece a q b)
      (rows_written n p 1 bits to_p first all size_p ∙ ap (with_piece (rows n bits) p) (row_alone n q bits second all))
      (row_alone n p bits first all)

  -- the rows from p up to before q turned by k
  pub rows_turned : (n p q k : ℕ) (bits : List Bool) → p + k ≤ q → q ≤ n → length bits ≡ n * w
      → rows n (turned bits (p * w) (q * w) (k * w)) ≡ turned (rows n bits) p q k
  rows_turned n p q k bits most within all =
      let m : ℕ = q - (p + k) in
      let j : ℕ = p + k - p in
      let low : p ≤ n = omega arith in
      let lower : p ≤ p + k = omega arith in
      let then_in : p + k ≤ n = omega arith in
      let before = take (p * w) bits in
      let first = slice_range bits ((p + k) * w) (q * w) in
      let then = slice_range bits (p * w) ((p + k) * w) in
      let behind = drop (q * w) bits in
      let first_size = length-between n (p + k) q bits most within all in
      let then_size = length-between n p (p + k) bits lower then_in all in
      let rest = length-behind n q bits within all in
      let count : n ≡ p + (m + (j + (n - q))) = omega arith in
      let most_rest : length (then ++ behind) ≡ (j + (n - q)) * w =
      length-append then behind ∙ omega (arith, then_size, rest, place_behind j (n - q) w) in
      let more : length (first ++ (then ++ behind)) ≡ (m + (j + (n - q))) * w =
      length-append first (then ++ behind)
      ∙ omega (arith, first_size, most_rest, place_behind m (j + (n - q)) w) in
      let at : p * w + k * w ≡ (p + k) * w = sym (place_behind p k w) in
      ap (λ a. rows n (before ++ (slice_range bits a (q * w) ++ (slice_range bits (p * w) a ++ behind)))) at
      ∙ ap (λ c. rows c (before ++ (first ++ (then ++ behind)))) count
      ∙ cuts.joined p (m + (j + (n - q))) before (first ++ (then ++ behind)) (length-front n p bits low all) more
      ∙ ap₂ (λ a b. a ++ b) (front_rows n p bits low all)
      (cuts.joined m (j + (n - q)) first (then ++ behind) first_size most_rest
      ∙ ap₂ (λ a b. a ++ b) (rows_between n (p + k) q bits most within all)
      (cuts.joined j (n - q) then behind then_size rest
      ∙ ap₂ (λ a b. a ++ b) (rows_between n p (p + k) bits lower then_in all) (rows_behind n q bits within all)))

-- one element read, and one written over another
pub one_read : {X : Type 0} (xs : List X) (p : ℕ) (d : X) → p < length xs → piece xs p 1 ≡ get_or xs p d ∷ []
unfolding piece
one_read xs p d low = ap (take 1) (drop_more xs p d low)

one_written : {X : Type 0} (xs : List X) (p : ℕ) (x : X) → p < length xs → with_piece xs p (x ∷ []) ≡ set xs p x
unfolding with_piece
one_written xs p x low = same_lists _ _ (grind (arith, places, length-set xs p x)) (λ k d h. elim (cases_eq k p) [
  | inl same ↦ rw same (grind (arith, places, get_or-set_same xs p x d))
  | inr other ↦ grind (arith, places, get_or-set_other xs p k x d other)
])

-- single elements exchanged are swapped
pub exchanged_one : {X : Type 0} (xs : List X) (p q : ℕ) → p < length xs → q < length xs
    → exchanged xs p q 1 ≡ swap xs p q
exchanged_one [] p q first second = absurd (omega arith)
exchanged_one (d ∷ ys) p q first second =
    let xs = d ∷ ys in
    let once = set xs p (get_or xs q d) in
    let still : q < length once = omega (arith, length-set xs p (get_or xs q d)) in
    ap₂ (λ a b. with_piece (with_piece xs p a) q b) (one_read xs q d second) (one_read xs p d first)
    ∙ ap (λ l. with_piece l q (get_or xs p d ∷ [])) (one_written xs p (get_or xs q d) first)
    ∙ one_written once q (get_or xs p d) still

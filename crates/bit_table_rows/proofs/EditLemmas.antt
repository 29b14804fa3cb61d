-- What the steps of an edit make of a list of rows of w bits each.
--
-- Rows put in and taken out: `rows_opened`, `row_filled`, `bit_filled`, `rows_removed`, `range_is`. Rows that stay as many:
-- `copied_part`, `turned_part`, `exchanged_same`, `exchanged_back`.
use Rattle.std.proofs.Common.{◌≡◌, ℕ, suc, ◌+◌, ◌-◌, ◌*◌, ◌<◌, ◌≤◌, Bool, List, [], ◌∷◌, ◌++◌, length, take, drop, set}
use Rattle.std.proofs.Common.{arith, refl, ap, ap₂, ◌∙◌}
use Rattle.std.specs.Prelude.{slice_range}
use Rattle.std.proofs.lemmas.List.{append_assoc, places, same_lists, set_split}
use Rattle.bit_addressing_memory.specs.Memory.{piece, with_piece}
use Rattle.bit_addressing_memory.proofs.MemoryLemmas.{length-piece}
use Rattle.bit_table_rows.specs.RowMoves.{rows_moved}
use Rattle.bit_table_rows.specs.RowEdits.{inserted, deleted, copied, exchanged, turned, Opens}
use Rattle.bit_table_rows.proofs.PlaceLemmas.{place_order, place_apart, place_next}

-- ---- more and fewer

-- n elements more at the end, and those from a on moved behind n of them
opened : (xs ys : List Bool) (a b n m : ℕ) → b ≡ a + n → a ≤ length xs → length ys ≡ n → m ≡ length xs - a
    → Opens xs (with_piece (xs ++ ys) b (piece (xs ++ ys) a m)) a n
unfolding piece with_piece
opened xs ys a b n m is inside size rest = record {
  before = same_lists _ _ (grind (arith, places)) (λ k d h. grind (arith, places));
  behind = same_lists _ _ (grind (arith, places)) (λ k d h. grind (arith, places));
}

-- a row more at the end, and the rows from p on moved by one
pub rows_opened : (xs ys : List Bool) (p n w : ℕ) → p ≤ n → length xs ≡ n * w → length ys ≡ w
    → Opens xs (rows_moved w (xs ++ ys) p (p + 1) n) (p * w) w
rows_opened xs ys p n w within rows size =
    let low = place_order p n w within in
    let rest = place_apart p n w within in
    opened xs ys (p * w) ((p + 1) * w) w ((n - p) * w) (place_next p w) (omega arith) size (omega arith)

-- what was opened, written
pub row_filled : (xs zs row : List Bool) (a n : ℕ) → length row ≡ n → Opens xs zs a n
    → with_piece zs a row ≡ inserted xs a row
unfolding with_piece
row_filled xs zs row a n size is =
    append_assoc (take a zs) row (drop (a + length row) zs)
    ∙ ap₂ (λ front back. front ++ (row ++ back)) is.before (ap (λ k. drop (a + k) zs) size ∙ is.behind)

-- a bit that was opened, written
pub bit_filled : (xs zs : List Bool) (a : ℕ) (b : Bool) → a < length zs → Opens xs zs a 1
    → set zs a b ≡ inserted xs a (b ∷ [])
bit_filled xs zs a b inside is =
    let next : suc a ≡ a + 1 = omega arith in
    set_split zs a b inside
    ∙ ap₂ (λ front back. front ++ (b ∷ back)) is.before (ap (λ k. drop k zs) next ∙ is.behind)

-- those from b on moved to a, and the rest cut off
removed : (xs : List Bool) (a b m n : ℕ) → a ≤ b → b ≤ length xs → m ≡ length xs - b → n ≡ a + m
    → take n (with_piece xs a (piece xs b m)) ≡ deleted xs a b
unfolding piece with_piece
removed xs a b m n order inside is all =
    same_lists _ _ (grind (arith, places)) (λ k d h. grind (arith, places))

-- the rows from q on moved to row p, and the rest cut off
pub rows_removed : (xs : List Bool) (p q n w left : ℕ) → p ≤ q → q ≤ n → length xs ≡ n * w
    → left ≡ n * w - (q - p) * w → take left (rows_moved w xs q p n) ≡ deleted xs (p * w) (q * w)
rows_removed xs p q n w left order within rows is =
    let low = place_order q n w within in
    let rest = place_apart q n w within in
    let gone = place_apart p q w order in
    let lower = place_order p q w order in
    removed xs (p * w) (q * w) ((n - q) * w) left lower (omega arith) (omega arith) (omega arith)

-- a piece by its two ends
pub range_is : (xs : List Bool) (a b : ℕ) → piece xs a (b - a) ≡ slice_range xs a b
unfolding piece
range_is xs a b = refl

-- ---- as many

-- a part copied over another
pub copied_part : (xs : List Bool) (a b c : ℕ) → a ≤ b → b ≤ length xs
    → with_piece xs c (piece xs a (b - a)) ≡ copied xs a b c
unfolding with_piece
copied_part xs a b c order inside =
    let ys = piece xs a (b - a) in
    let size : length ys ≡ b - a = length-piece xs a (b - a) (omega arith) in
    append_assoc (take c xs) ys (drop (c + length ys) xs)
    ∙ ap₂ (λ part n. take c xs ++ (part ++ drop (c + n) xs)) (range_is xs a b) size

-- a part of it turned
pub turned_part : (xs : List Bool) (a m k : ℕ) → a + m ≤ length xs → k ≤ m
    → with_piece xs a (drop k (piece xs a m) ++ take k (piece xs a m)) ≡ turned xs a (a + m) k
unfolding piece with_piece
turned_part xs a m k inside most = same_lists _ _ (grind (arith, places)) (λ i d h. grind (arith, places))

-- a part exchanged with itself
pub exchanged_same : (xs : List Bool) (a n : ℕ) → a + n ≤ length xs → exchanged xs a a n ≡ xs
unfolding piece with_piece
exchanged_same xs a n inside = same_lists _ _ (grind (arith, places)) (λ k d h. grind (arith, places))

-- the order of two parts does not matter
pub exchanged_back : (xs : List Bool) (a b n : ℕ) → a + n ≤ b → b + n ≤ length xs
    → exchanged xs a b n ≡ exchanged xs b a n
unfolding piece with_piece
exchanged_back xs a b n apart inside = same_lists _ _ (grind (arith, places)) (λ k d h. grind (arith, places))

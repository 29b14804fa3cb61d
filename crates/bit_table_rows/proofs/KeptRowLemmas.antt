-- Rows that stay where others are taken out.
--
-- Of n rows of w bits each, of any kind, what their bits are as rows: `rows_that_stay`. Of a window of words, what lies
-- beside it: `kept_beside`.
use Rattle.std.proofs.Common.{◌≡◌, ℕ, zero, suc, ◌*◌, ◌<◌, ◌≤◌, ◌++◌, Bool, false, List, [], ◌∷◌, length, take}
use Rattle.std.proofs.Common.{add-one, ap, ap₂, arith, get_or, inl, inr, not, refl, subst, sym, ◌∙◌}
use Rattle.std.proofs.lemmas.Bool.{cases_Bool}
use Rattle.std.proofs.lemmas.List.{take_all}
use Rattle.std.specs.List.{count_by}
use Rattle.bit_addressing_memory.proofs.MemoryLemmas.{length-piece}
use Rattle.bit_table_rows.proofs.KeptLemmas.{few_left, joined_next, joined_stays, left_of_next, left_of_stays}
use Rattle.bit_table_rows.proofs.KeptLemmas.{left_stays}
use Rattle.bit_table_rows.proofs.KeptLemmas.{length-joined, length-rows_left, more_left}
use Rattle.bit_table_rows.specs.RowMoves.{row_at}
use Rattle.bit_slice_views_mut.specs.Frame.{KeepsBeside}
use Rattle.bit_addressing_memory.specs.Memory.{Reading}
use Rattle.bit_table_rows.specs.RowsKept.{KeepsRows, kept, left_before, left_of, rows_joined, rows_left}
use Rattle.bit_table_rows.proofs.PlaceLemmas.{place_end, place_order}
use Rattle.bit_table_rows.proofs.RowListLemmas.{row_alone}
use Rattle.bit_table_rows.specs.RowLists.{CutsRows}

-- what lies beside a window of rows, some of which are kept, is as before
pub kept_beside : {R : Type 0} (reading : Reading R) (before after : List R) (place len n w : ℕ) (off : List Bool)
    → length off ≡ n → n * w ≤ len → KeepsRows reading before after place w off
    → KeepsBeside reading before after place len
kept_beside reading before after place len n w off flags rows is =
    let few : length (rows_left off) * w ≤ n * w =
    place_order (length (rows_left off)) n w (omega (arith, few_left off (length off))) in
    record { below = is.below; above = λ p far. is.above p (omega arith); words = is.words }

-- no element at all
none_of : {X : Type 0} (xs : List X) → length xs ≡ 0 → xs ≡ []
none_of [] none = refl
none_of (x ∷ xs) none = absurd (omega (arith, none))

module _ {X : Type 0} (w : ℕ) (rows : ℕ → List Bool → List X) (cuts : CutsRows w rows) where
  -- the rows that stay of those before row m
  stay_before : (n m : ℕ) (off bits : List Bool) → m ≤ n → length off ≡ n → length bits ≡ n * w
      → rows (length (left_before off m)) (rows_joined w bits (left_before off m))
      ≡ left_of (take m off) (take m (rows n bits))
  unfolding left_of
  stay_before n zero off bits within flags all = none_of (rows 0 []) (cuts.count 0 [] (omega arith))
  stay_before n (suc m) off bits within flags all =
      let before = stay_before n m off bits (omega arith) flags all in
      let low : m < length off = omega arith in
      let here : m < length (rows n bits) = omega (arith, cuts.count n bits all) in
      let fits : m * w ≤ length bits = omega (arith, place_order m n w (omega arith)) in
      let size = length-joined w bits off m fits in
      subst
      (λ k. rows (length (left_before off k)) (rows_joined w bits (left_before off k))
      ≡ left_of (take k off) (take k (rows n bits))) (add-one m)
      (elim (cases_Bool (get_or off m false)) [
        | inl goes ↦
            ap₂ rows (ap length (left_stays off m goes)) (joined_stays w bits off m goes)
            ∙ before
            ∙ sym (left_of_stays off (rows n bits) m low here goes)
        | inr stays ↦
            let end = place_end m n w (omega arith) in
            ap₂ rows (more_left off m stays) (joined_next w bits off m stays)
            ∙ cuts.joined (length (left_before off m)) 1 (rows_joined w bits (left_before off m)) (row_at w bits m) size
            (length-piece bits (m * w) w (omega arith) ∙ omega arith)
            ∙ ap₂ (λ ys zs. ys ++ zs) before (row_alone w rows cuts n m bits (omega arith) all)
            ∙ sym (left_of_next off (rows n bits) m low here stays)
      ])

  -- the rows that stay
  pub rows_that_stay : (n : ℕ) (off bits : List Bool) → length off ≡ n → length bits ≡ n * w
      → rows (count_by not off) (kept w off bits) ≡ left_of off (rows n bits)
  rows_that_stay n off bits flags all =
      let count : length (left_before off n) ≡ count_by not off =
      ap (λ m. length (left_before off m)) (sym flags) ∙ length-rows_left off in
      ap₂ rows (sym count) (ap (λ m. rows_joined w bits (left_before off m)) flags)
      ∙ stay_before n n off bits (omega arith) flags all
      ∙ ap₂ left_of (take_all n off (omega arith)) (take_all n (rows n bits) (omega (arith, cuts.count n bits all)))

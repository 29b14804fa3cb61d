-- The rows that stay of those whose flags are false.
use Rattle.std.proofs.Common.{◌≡◌, ℕ, zero, suc, ◌+◌, ◌*◌, ◌<◌, ◌≤◌, Bool, false, not, List, ◌++◌, length, take}
use Rattle.std.proofs.Common.{get_or, inl, inr, refl, sym, ap, ap₂, ◌∙◌, subst, arith, add-one}
use Rattle.std.specs.Prelude.{count_by}
use Rattle.std.proofs.lemmas.Bool.{cases_Bool}
use Rattle.std.proofs.Math.Nat.{mul-le-mul_right}
use Rattle.std.proofs.lemmas.List.{take_all}
use Rattle.bit_addressing_memory.specs.Memory.{piece}
use Rattle.bit_table_layout.specs.Layouts.{LayoutShape, row_width}
use Rattle.bit_table_layout.specs.Readings.{rows_from}
use Rattle.bit_table_layout.specs.Rows.{Row}
use Rattle.bit_table_layout.proofs.RowLemmas.{length-rows_from, rows_from-append}
use Rattle.bit_table_rows.specs.RowsKept.{kept, left_before, left_of, rows_joined}
use Rattle.bit_table_rows.specs.RowMoves.{row_at}
use Rattle.bit_table_rows.proofs.KeptLemmas.{joined_next, joined_stays, left_stays, left_of_next}
use Rattle.bit_table_rows.proofs.KeptLemmas.{left_of_stays, length-joined, length-rows_left, more_left}
use Rattle.bit_table_rows.proofs.RowListLemmas.{row_alone}
use Rattle.bit_table_rows.proofs.RowListCallerLemmas.{numbers_as_rows}

module _ (l : LayoutShape) (n : ℕ) (bits off : List Bool) (all : length bits ≡ n * row_width l.fields)
    (flags : length off ≡ n) where
  abbrev w : ℕ
  w = row_width l.fields

  abbrev rows : List Row
  rows = rows_from l n bits

  one_row : (m : ℕ) → m < n → rows_from l 1 (row_at w bits m) ≡ piece rows m 1
  one_row m low = row_alone w (rows_from l) (numbers_as_rows l) n m bits (omega arith) all

  -- of the first m rows
  upto : (m : ℕ) → m ≤ n
      → rows_from l (length (left_before off m)) (rows_joined w bits (left_before off m)) ≡ left_of (take m off) (take m rows)
  unfolding left_of
  upto zero within = refl
  upto (suc m) within =
      let low : m < n = omega arith in
      let here : m < length rows = omega (arith, length-rows_from l n bits) in
      let before = upto m (omega arith) in
      let fewer : m * w ≤ n * w = mul-le-mul_right w (omega arith) in
      let fits : m * w ≤ length bits = omega (arith, all, fewer) in
      subst (λ k. rows_from l (length (left_before off k)) (rows_joined w bits (left_before off k))
      ≡ left_of (take k off) (take k rows)) (add-one m)
      (elim (cases_Bool (get_or off m false)) [
        | inl goes ↦
            ap (λ ks. rows_from l (length ks) (rows_joined w bits (left_before off (m + 1)))) (left_stays off m goes)
            ∙ ap (rows_from l (length (left_before off m))) (joined_stays w bits off m goes)
            ∙ before
            ∙ sym (left_of_stays off rows m (omega arith) here goes)
        | inr stays ↦
            ap₂ (rows_from l) (more_left off m stays) (joined_next w bits off m stays)
            ∙ rows_from-append l (length (left_before off m)) 1 (rows_joined w bits (left_before off m)) (row_at w bits m)
            (length-joined w bits off m fits)
            ∙ ap₂ (λ xs ys. xs ++ ys) before (one_row m low)
            ∙ sym (left_of_next off rows m (omega arith) here stays)
      ])

  -- the rows whose flags are false
  pub rows_after_keep : rows_from l (count_by not off) (kept w off bits) ≡ left_of off rows
  rows_after_keep =
      ap (λ k. rows_from l k (kept w off bits)) (sym (length-rows_left off))
      ∙ upto (length off) (omega (arith, flags))
      ∙ ap₂ left_of (take_all (length off) off (omega arith))
      (take_all (length off) rows (omega (arith, flags, length-rows_from l n bits)))

-- What callers of a move of rows, or of one that keeps some, need: the list that it makes.
--
-- Rows moved: each row by `moved_row`, `kept_row`; the whole list by `length-rows_moved`.
-- Rows kept: `length-kept`, `length-rows_kept`, and the kept rows alone by `front_kept`.
use Rattle.std.proofs.Common.{◌≡◌, ◌⊎◌, inl, inr, ℕ, ◌+◌, ◌-◌, ◌*◌, ◌<◌, ◌≤◌, Bool, false, List, length, get_or, sym}
use Rattle.std.proofs.Common.{ap, ◌∙◌, arith, add-mul, mul-le-mul_right}
use Rattle.std.proofs.Common.{drop, not, take}
use Rattle.std.proofs.Math.Seq.{take-append_seam}
use Rattle.std.proofs.lemmas.List.{ext_get_or}
use Rattle.std.proofs.lemmas.List.Sums.{count_by-le-length}
use Rattle.std.specs.List.{count_by}
use Rattle.bit_addressing_memory.proofs.MemoryLemmas.{length-piece, get_or-piece, length-with_piece}
use Rattle.bit_addressing_memory.proofs.MemoryLemmas.{with_piece_below, with_piece_inside, with_piece_above}
use Rattle.bit_addressing_memory.specs.Memory.{with_piece}
use Rattle.bit_table_rows.specs.RowMoves.{row_at, rows_between, rows_moved}
use Rattle.bit_table_rows.specs.RowsKept.{kept, rows_kept}
use Rattle.bit_table_rows.proofs.KeptLemmas.{length-joined, length-rows_left}
use Rattle.bit_table_rows.proofs.RowLemmas.{rows_join, row_end}

module _ (w p q n : ℕ) (bits : List Bool) (order : p ≤ n) (rows_within : n * w ≤ length bits)
    (target_within : (q + (n - p)) * w ≤ length bits) where
  length-between : length (rows_between w bits p n) ≡ (n - p) * w
  length-between =
      let all = rows_join p n w order in
      length-piece bits (p * w) ((n - p) * w) (omega arith)

  fits : q * w + length (rows_between w bits p n) ≤ length bits
  fits =
      let target = add-mul q (n - p) w in
      omega (arith, length-between)

  -- as many bits
  pub length-rows_moved : length (rows_moved w bits p q n) ≡ length bits
  length-rows_moved = length-with_piece bits (q * w) (rows_between w bits p n) fits

  -- a row that was moved
  pub moved_row : (k : ℕ) → k < n - p → row_at w (rows_moved w bits p q n) (q + k) ≡ row_at w bits (p + k)
  moved_row k low =
      let inside = row_end k (n - p) w low in
      let from = add-mul p k w in
      let to = add-mul q k w in
      let source = rows_join p n w order in
      let target = add-mul q (n - p) w in
      let now = rows_moved w bits p q n in
      let size : length (row_at w now (q + k)) ≡ w =
      length-piece now ((q + k) * w) w (omega (arith, length-rows_moved)) in
      let had : length (row_at w bits (p + k)) ≡ w = length-piece bits ((p + k) * w) w (omega arith) in
      ext_get_or false (row_at w now (q + k)) (row_at w bits (p + k)) (size ∙ sym had) (λ i h.
      let small : i < w = omega arith in
      let at : p * w + (k * w + i) ≡ (p + k) * w + i = omega arith in
      get_or-piece now ((q + k) * w) w i false small
      ∙ with_piece_inside bits (q * w) (rows_between w bits p n) ((q + k) * w + i) (k * w + i) false fits
      (omega arith) (omega (arith, length-between))
      ∙ get_or-piece bits (p * w) ((n - p) * w) (k * w + i) false (omega arith)
      ∙ ap (λ j. get_or bits j false) at
      ∙ sym (get_or-piece bits ((p + k) * w) w i false small))

  -- and each other row, which lies before the target or behind it
  pub kept_row : (k : ℕ) → (k + 1) * w ≤ length bits → (k < q) ⊎ (q + (n - p) ≤ k)
      → row_at w (rows_moved w bits p q n) k ≡ row_at w bits k
  kept_row k within side =
      let now = rows_moved w bits p q n in
      let next : (k + 1) * w ≡ k * w + 1 * w = add-mul k 1 w in
      let size : length (row_at w now k) ≡ w = length-piece now (k * w) w (omega (arith, length-rows_moved)) in
      let had : length (row_at w bits k) ≡ w = length-piece bits (k * w) w (omega arith) in
      ext_get_or false (row_at w now k) (row_at w bits k) (size ∙ sym had) (λ i h.
      let small : i < w = omega arith in
      get_or-piece now (k * w) w i false small
      ∙ elim side [
        | inl below ↦
            let before = row_end k q w below in
            with_piece_below bits (q * w) (rows_between w bits p n) (k * w + i) false fits (omega arith)
        | inr above ↦
            let target = add-mul q (n - p) w in
            let behind = mul-le-mul_right w above in
            with_piece_above bits (q * w) (rows_between w bits p n) (k * w + i) false fits
            (omega (arith, length-between))
      ]
      ∙ sym (get_or-piece bits (k * w) w i false small))

module _ (w : ℕ) (off bits : List Bool) (rows_within : length off * w ≤ length bits) where
  -- as many bits as the kept rows have
  pub length-kept : length (kept w off bits) ≡ count_by not off * w
  length-kept =
      length-joined w bits off (length off) rows_within ∙ ap (λ m. m * w) (length-rows_left off)

  fewer : count_by not off * w ≤ length off * w
  fewer = mul-le-mul_right w (omega (arith, count_by-le-length not off))

  -- as many bits as before
  pub length-rows_kept : length (rows_kept w off bits) ≡ length bits
  length-rows_kept = length-with_piece bits 0 (kept w off bits) (omega (arith, length-kept, fewer))

  -- they are the first of the list
  pub front_kept : take (count_by not off * w) (rows_kept w off bits) ≡ kept w off bits
  unfolding with_piece
  front_kept =
      ap (λ m. take m (rows_kept w off bits)) (sym length-kept)
      ∙ take-append_seam (kept w off bits) (drop (0 + length (kept w off bits)) bits)

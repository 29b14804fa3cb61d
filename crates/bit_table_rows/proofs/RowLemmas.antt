-- Rows of w bits each that lie end to end: where they lie, and what a move of their bits makes of each and of the list.
use Rattle.std.proofs.Common.{◌≡◌, ℕ, ◌+◌, ◌-◌, ◌*◌, ◌<◌, ◌≤◌, List, length, sym, ap, ◌∙◌, arith}
use Rattle.std.proofs.Common.{add-mul, mul-le-mul_right}
use Rattle.bit_addressing_memory.specs.Memory.{Reading, entry, memory, piece}
use Rattle.bit_addressing_memory.specs.Moves.{Moves}
use Rattle.bit_addressing_memory.proofs.WindowLemmas.{length-window, window_bit, window_is, window_copied}
use Rattle.bit_table_rows.specs.RowMoves.{rows_moved}

-- ---- where rows lie

-- the rows before p and those from p up to before n are all before n
pub rows_join : (p n w : ℕ) → p ≤ n → p * w + (n - p) * w ≡ n * w
rows_join p n w order =
    let all : p + (n - p) ≡ n = omega arith in
    sym (add-mul p (n - p) w) ∙ ap (λ k. k * w) all

-- earlier rows have no more bits
pub rows_below : (p n w : ℕ) → p ≤ n → p * w ≤ n * w
rows_below p n w order = mul-le-mul_right w order

-- the place of a row
pub row_place : (head p k w : ℕ) → head + (p + k) * w ≡ head + p * w + k * w
row_place head p k w = ap (λ m. head + m) (add-mul p k w) ∙ omega arith

-- a row of the first m ends among them
pub row_end : (k m w : ℕ) → k < m → k * w + w ≤ m * w
row_end k m w low =
    let next : k + 1 ≤ m = omega arith in
    let more : (k + 1) * w ≡ k * w + 1 * w = add-mul k 1 w in
    let upto : (k + 1) * w ≤ m * w = mul-le-mul_right w next in
    omega arith

-- ---- what a move makes

module _ {R : Type 0} (reading : Reading R) (before after : List R) (head p q n w : ℕ) (some : 0 < reading.bits)
    (order : p ≤ n) (rows_within : head + n * w ≤ length before * reading.bits)
    (target_within : head + (q + (n - p)) * w ≤ length before * reading.bits)
    (is : Moves reading before after (head + p * w) (head + q * w) ((n - p) * w)) where
  -- a row that was moved
  pub row_moved : (k : ℕ) → k < n - p
      → piece (memory reading after) (head + (q + k) * w) w ≡ piece (memory reading before) (head + (p + k) * w) w
  row_moved k low =
      let inside = row_end k (n - p) w low in
      let from = row_place head p k w in
      let to = row_place head q k w in
      let source = rows_join p n w order in
      let target = add-mul q (n - p) w in
      let count = is.words in
      let row = piece (memory reading before) (head + (p + k) * w) w in
      let fits : head + (p + k) * w + w ≤ length before * reading.bits = omega arith in
      let still : head + (q + k) * w + w ≤ length after * reading.bits = rw is.words (omega arith) in
      window_is reading after (head + (q + k) * w) w row some still
      (length-window reading before (head + (p + k) * w) w fits)
      (λ i small.
      let there : head + (q + k) * w + i ≡ head + q * w + (k * w + i) = omega arith in
      let here : head + p * w + (k * w + i) ≡ head + (p + k) * w + i = omega arith in
      let within : k * w + i < (n - p) * w = omega arith in
      ap (entry reading after) there
      ∙ is.there (k * w + i) within
      ∙ ap (entry reading before) here
      ∙ sym (window_bit reading before (head + (p + k) * w) w i some small))

  -- the list from the first row on
  pub list_moved : (len : ℕ) → n * w ≤ len → (q + (n - p)) * w ≤ len → head + len ≤ length before * reading.bits
      → piece (memory reading after) head len ≡ rows_moved w (piece (memory reading before) head len) p q n
  list_moved len has_rows has_target fits =
      let source = rows_join p n w order in
      let target = add-mul q (n - p) w in
      let refl_source : head + p * w ≡ head + p * w = omega arith in
      let refl_target : head + q * w ≡ head + q * w = omega arith in
      window_copied reading before after head len (head + p * w) (head + q * w) (p * w) (q * w) ((n - p) * w) some
      fits refl_source refl_target (omega arith) (omega arith) is

pub ruleset row_places = (rows_join, rows_below)

pub ruleset rows = (rows_join, rows_below, row_moved, list_moved)

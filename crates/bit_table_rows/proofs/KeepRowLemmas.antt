-- Rows kept one after another by a sweep that goes up, and what all of them make of a list.
--
-- Row by row: `at_first`, `at_run`, `at_upto`, `at_gone`. All rows: `keeps_rows`, `kept_writes`; without a one:
-- `kept_zeros`. The list: `kept_list`.
use Rattle.std.proofs.Common.{◌≡◌, ℕ, zero, suc, ◌+◌, ◌-◌, ◌*◌, ◌/◌, ◌<◌, ◌≤◌, Bool, true, false, List, [], inl, inr}
use Rattle.std.proofs.Common.{length, drop, get_or, refl, sym, ap, subst, ◌∙◌, arith, add-mul, add-one, mul-le-mul_right}
use Rattle.std.proofs.lemmas.Bool.{cases_Bool, cases_lt}
use Rattle.std.proofs.lemmas.List.{get_or-append_right, get_or_append_left, get_or_past, length-take}
use Rattle.std.proofs.lemmas.Nat.{div-add-mod'}
use Rattle.bit_addressing_memory.proofs.MemoryLemmas.{get_or-piece, length-piece, piece_piece}
use Rattle.bit_addressing_memory.proofs.WindowLemmas.{length-window, window_bit, window_overwritten, window_same}
use Rattle.bit_addressing_memory.specs.Memory.{Overwrites, Reading, entry, memory, piece, touched, with_piece}
use Rattle.bit_addressing_memory.specs.Sweep.{edge_of, sweep_words, way_of, writes_of}
use Rattle.bit_addressing_memory.specs.declared.sweep.Sweep.{Sweep}
use Rattle.bit_addressing_memory.specs.declared.sweep.Way.TheVariants.{Up}
use Rattle.bit_table_rows.specs.KeepSteps.{AtRow, Filled, Fills}
use Rattle.bit_table_rows.specs.RowMoves.{row_at}
use Rattle.bit_table_rows.specs.RowsKept.{KeepsRows, kept, left_before, rows_joined, rows_kept, rows_left}
use Rattle.bit_table_rows.proofs.KeepLemmas.{filled_none, fills_more, fills_none}
use Rattle.bit_table_rows.proofs.KeptLemmas.{few_left, joined_next, joined_part, joined_run, joined_stays, left_stays}
use Rattle.bit_table_rows.proofs.KeptLemmas.{length-joined, more_run, run_stays}

-- ---- row by row

-- no row yet
pub at_first : {R : Type 0} (reading : Reading R) (s : Sweep R) (start : R) (first n w : ℕ) (off : List Bool)
    → way_of s ≡ Up → edge_of s ≡ 0 → AtRow reading s s start start first n w off 0 0
at_first reading s start first n w off way none = record {
  fills = fills_none reading s start first first;
  count_is = refl;
  few = omega arith;
  kept_end = omega arith;
  end = omega arith;
  edge = omega (arith, none);
  way = way;
}

module _ {R : Type 0} (reading : Reading R) (s t : Sweep R) (start word : R) (first n w : ℕ) (off : List Bool)
    (k count : ℕ) (some : 0 < reading.bits) (low : k < n)
    (within : first + n * w ≤ length (sweep_words s) * reading.bits)
    (at : AtRow reading s t start word first n w off k count) where
  bits : List Bool
  bits = piece (memory reading (sweep_words s)) first (n * w)

  next_end : (k + 1) * w ≤ n * w
  next_end = mul-le-mul_right w (omega arith)

  -- a row that goes
  pub at_gone : get_or off k false ≡ true → AtRow reading s t start word first n w off (k + 1) count
  at_gone goes =
      let same = left_stays off k goes in
      let more : (k + 1) * w ≡ k * w + 1 * w = add-mul k 1 w in
      record {
        fills = rw same at.fills;
        count_is = rw same at.count_is;
        few = omega (arith, at.few);
        kept_end = omega (arith, at.kept_end);
        end = next_end;
        edge = at.edge;
        way = at.way;
      }

  filled_end : first + length (rows_joined w (piece (memory reading (sweep_words s)) first (n * w)) (left_before off k))
      ≡ first + count * w
  filled_end =
      let size : length (piece (memory reading (sweep_words s)) first (n * w)) ≡ n * w =
      length-window reading (sweep_words s) first (n * w) within in
      let all = length-joined w (piece (memory reading (sweep_words s)) first (n * w)) off k (omega (arith, at.end)) in
      ap (λ m. first + m) (all ∙ ap (λ m. m * w) (sym at.count_is))

  -- the next rows are still as they were
  rows_there : (m : ℕ) → k + m ≤ n → piece (memory reading (sweep_words t)) (first + k * w) (m * w)
      ≡ piece (piece (memory reading (sweep_words s)) first (n * w)) (k * w) (m * w)
  rows_there m more =
      let all : (k + m) * w ≡ k * w + m * w = add-mul k m w in
      let inside : (k + m) * w ≤ n * w = mul-le-mul_right w more in
      let far = div-add-mod' (first + count * w) reading.bits in
      window_same reading (sweep_words s) (sweep_words t) (first + k * w) (m * w) some (omega arith) at.fills.words
      (λ i small.
      at.fills.ahead (first + k * w + i) (rw filled_end (omega (arith, at.kept_end))))
      ∙ sym (piece_piece (memory reading (sweep_words s)) first (n * w) (k * w) (m * w) (omega arith))

  -- rows that stay, one behind the other
  at_run : (u : Sweep R) (next : R) (m : ℕ) → k + m ≤ n
      → ((i : ℕ) → i < m → get_or off (k + i) false ≡ false)
      → Fills reading t u word next first (first + count * w)
      (piece (memory reading (sweep_words t)) (first + k * w) (m * w))
      → AtRow reading s u start next first n w off (k + m) (count + m)
  at_run u next m upto stay put =
      let xs = piece (memory reading (sweep_words s)) first (n * w) in
      let done = rows_joined w xs (left_before off k) in
      let rows = piece xs (k * w) (m * w) in
      let all : (k + m) * w ≡ k * w + m * w = add-mul k m w in
      let inside : (k + m) * w ≤ n * w = mul-le-mul_right w upto in
      let row_size : length rows ≡ m * w =
      length-piece xs (k * w) (m * w) (omega (arith, length-window reading (sweep_words s) first (n * w) within)) in
      let more : (count + m) * w ≡ count * w + m * w = add-mul count m w in
      let step : Fills reading t u word next first (first + length done) rows =
      rw (filled_end, ← rows_there m upto) put in
      let edge = put.edge at.edge in
      let last : first + count * w + length (piece (memory reading (sweep_words t)) (first + k * w) (m * w))
      ≡ first + (count + m) * w = rw (rows_there m upto) (omega arith) in
      record {
        fills =
            rw (joined_run w xs off k m stay)
            (fills_more reading s t u start word next first first done rows some at.fills step);
        count_is = ap (λ c. c + m) at.count_is ∙ sym (more_run off k m stay);
        few = omega (arith, at.few);
        kept_end = omega (arith, at.kept_end);
        end = inside;
        edge = rw last at edge;
        way = put.way ∙ at.way;
      }

  -- the row and those behind it up to another
  pub at_upto : (u : Sweep R) (next : R) (upto : ℕ) → k ≤ upto → upto ≤ n → get_or off k false ≡ false
      → ((i : ℕ) → k + 1 ≤ i → i < upto → get_or off i false ≡ false)
      → Fills reading t u word next first (first + count * w)
      (piece (memory reading (sweep_words t)) (first + k * w) ((upto - k) * w))
      → AtRow reading s u start next first n w off upto (count + (upto - k))
  at_upto u next upto order high stays behind put =
      let all : k + (upto - k) ≡ upto = omega arith in
      subst (λ i. AtRow reading s u start next first n w off i (count + (upto - k))) all
      (at_run u next (upto - k) (omega arith) (run_stays off k upto stays behind) put)

-- ---- all rows

module _ {R : Type 0} (reading : Reading R) (s t : Sweep R) (start word : R) (first n w : ℕ) (off : List Bool)
    (count : ℕ) (some : 0 < reading.bits) (flags : length off ≡ n)
    (within : first + n * w ≤ length (sweep_words s) * reading.bits)
    (at : AtRow reading s t start word first n w off n count) where
  all_end : first + length (rows_joined w (piece (memory reading (sweep_words s)) first (n * w)) (left_before off n))
      ≡ first + count * w
  all_end =
      let size : length (piece (memory reading (sweep_words s)) first (n * w)) ≡ n * w =
      length-window reading (sweep_words s) first (n * w) within in
      let all = length-joined w (piece (memory reading (sweep_words s)) first (n * w)) off n (omega arith) in
      ap (λ m. first + m) (all ∙ ap (λ m. m * w) (sym at.count_is))

  -- once the word at hand is put too
  pub keeps_rows : (after : List R)
      → ((before : List R) (bits : List Bool)
      → Filled reading before (sweep_words t) first (first + count * w) word bits
      → Overwrites reading before after first (length bits) (λ i. get_or bits i false))
      → KeepsRows reading (sweep_words s) after first w off
  keeps_rows after rest =
      let before = sweep_words s in
      let xs = rows_joined w (piece (memory reading before) first (n * w)) (left_before off n) in
      let filled = at.fills.filled before [] (filled_none reading before first start) in
      let size : length xs ≡ length (left_before off n) * w = omega (arith, all_end, ap (λ m. m * w) at.count_is) in
      let is : Overwrites reading before after first (length xs) (λ i. get_or xs i false) =
      rest before xs (rw (← all_end) filled) in
      rw (flags, ← size) is

  -- no more words are counted than the kept rows touch
  pub kept_writes : (writes : ℕ) → writes_of s ≡ 0
      → writes + (first + count * w) / reading.bits
      ≡ writes_of t + (first / reading.bits + touched reading.bits first (first + count * w - first))
      → writes ≡ touched reading.bits first (count * w)
  kept_writes writes none counted =
      let size : first + count * w - first ≡ count * w = omega arith in
      let put : writes_of t + first / reading.bits ≡ writes_of s + (first + count * w) / reading.bits =
      rw (← all_end) at.fills.writes in
      let counts = rw size at counted in
      omega arith

-- ---- rows without a one

few_in_piece : (xs : List Bool) (p n : ℕ) → length (piece xs p n) ≤ n
unfolding piece
few_in_piece xs p n = omega (arith, length-take n (drop p xs))

-- rows of a list without a one have none
zeros_joined : (w : ℕ) (xs off : List Bool) (n i : ℕ) → ((j : ℕ) → get_or xs j false ≡ false)
    → get_or (rows_joined w xs (left_before off n)) i false ≡ false
zeros_joined w xs off zero i none = refl
zeros_joined w xs off (suc n) i none =
    let rows = rows_joined w xs (left_before off n) in
    let row = row_at w xs n in
    let before = zeros_joined w xs off n i none in
    subst (λ m. get_or (rows_joined w xs (left_before off m)) i false ≡ false) (add-one n)
    (elim (cases_Bool (get_or off n false)) [
      | inl goes ↦ ap (λ ys. get_or ys i false) (joined_stays w xs off n goes) ∙ before
      | inr stays ↦ ap (λ ys. get_or ys i false) (joined_next w xs off n stays) ∙ elim (cases_lt i (length rows)) [
        | inl inside ↦ get_or_append_left rows row false i inside ∙ before
        | inr past ↦
            get_or-append_right rows row (length rows) i false refl past ∙ zeros_row w xs (n * w) (i - length rows) none
      ]
    ])
  where
    zeros_row : (w : ℕ) (xs : List Bool) (p i : ℕ) → ((j : ℕ) → get_or xs j false ≡ false)
        → get_or (piece xs p w) i false ≡ false
    zeros_row w xs p i none = elim (cases_lt i w) [
      | inl inside ↦ get_or-piece xs p w i false inside ∙ none (p + i)
      | inr past ↦ get_or_past (piece xs p w) i false (omega (arith, few_in_piece xs p w))
    ]

-- where no bit of the rows is 1 and all bits stay, the kept rows stand there
pub kept_zeros : {R : Type 0} (reading : Reading R) (before after : List R) (first w : ℕ) (off : List Bool)
    → 0 < reading.bits → first + length off * w ≤ length before * reading.bits
    → ((p : ℕ) → p < first + length off * w → entry reading before p ≡ false)
    → ((p : ℕ) → entry reading after p ≡ entry reading before p) → length after ≡ length before
    → KeepsRows reading before after first w off
kept_zeros reading before after first w off some within none same words =
    let xs = piece (memory reading before) first (length off * w) in
    let few : length (rows_left off) * w ≤ length off * w = mul-le-mul_right w (few_left off (length off)) in
    let size : length xs ≡ length off * w = length-window reading before first (length off * w) within in
    let zeros : (j : ℕ) → get_or xs j false ≡ false = λ j. elim (cases_lt j (length off * w)) [
      | inl inside ↦
          window_bit reading before first (length off * w) j some inside ∙ none (first + j) (omega arith)
      | inr past ↦ get_or_past xs j false (omega arith)
    ] in
    record {
      there = λ k low.
          same (first + k)
          ∙ none (first + k) (omega arith)
          ∙ sym (zeros_joined w xs off (length off) k zeros);
      below = λ p low. same p;
      above = λ p high. same p;
      words = words;
    }

-- ---- the list

-- the list from a place on, of any length that has the rows
pub kept_list : {R : Type 0} (reading : Reading R) (before after : List R) (place len w : ℕ) (off : List Bool)
    → 0 < reading.bits → length off * w ≤ len → place + len ≤ length before * reading.bits
    → KeepsRows reading before after place w off
    → piece (memory reading after) place len ≡ rows_kept w off (piece (memory reading before) place len)
kept_list reading before after place len w off some rows within is =
    let m = memory reading before in
    let ys = kept w off (piece m place (length off * w)) in
    let here : place ≡ place + 0 = omega arith in
    let few : length (rows_left off) * w ≤ length off * w = mul-le-mul_right w (few_left off (length off)) in
    let size : length (piece m place (length off * w)) ≡ length off * w =
    length-window reading before place (length off * w) (omega arith) in
    let count : length ys ≡ length (rows_left off) * w =
    length-joined w (piece m place (length off * w)) off (length off) (omega arith) in
    window_overwritten reading before after place len place 0 (length (rows_left off) * w) (λ i. get_or ys i false) ys
    some within here (omega arith) count (λ i low. refl) is
    ∙ ap (with_piece (piece m place len) 0) (sym (joined_part w m off place len (length off) rows))

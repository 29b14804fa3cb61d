-- A window is a piece of the memory: what a call that wrote inside it, or beside it, makes of its list.
--
-- By its entries: `window_is`, `window_bit`, `length-window`. Beside it: `window_same`, `window_beside`.
-- Written: `window_written` (one entry), `window_overwritten` (several), `window_copied` (a piece of the same window),
-- `window_swapped` (two exchanged).
use Rattle.bit_addressing_memory.proofs.Common.{◌≡◌, ◌⊎◌, ℕ, ◌+◌, ◌-◌, ◌*◌, ◌<◌, ◌≤◌, Bool, false, List, length}
use Rattle.bit_addressing_memory.proofs.Common.{get_or, set, sym, ap, ◌∙◌, inl, inr, arith, length-set}
use Rattle.bit_addressing_memory.proofs.Common.{get_or-set_same, get_or-set_other, cases_eq, cases_lt, Reading, entry}
use Rattle.bit_addressing_memory.proofs.Common.{memory, piece, with_piece, Overwrites, Writes, Copies, Swaps}
use Rattle.std.proofs.lemmas.List.{ext_get_or}
use Rattle.bit_addressing_memory.proofs.MemoryLemmas.{length-memory, entry_memory, length-piece, get_or-piece}
use Rattle.bit_addressing_memory.proofs.MemoryLemmas.{length-with_piece, with_piece_below, with_piece_inside}
use Rattle.bit_addressing_memory.proofs.MemoryLemmas.{with_piece_above}
use Rattle.bit_addressing_memory.proofs.OverwriteLemmas.{written_there, written_others}

-- ---- by its entries

-- so many bits
pub length-window : {R : Type 0} (reading : Reading R) (words : List R) (place n : ℕ)
    → place + n ≤ length words * reading.bits → length (piece (memory reading words) place n) ≡ n
length-window reading words place n fits =
    length-piece (memory reading words) place n (omega (arith, length-memory reading words))

-- its bit k is an entry of the memory
pub window_bit : {R : Type 0} (reading : Reading R) (words : List R) (place n k : ℕ) → 0 < reading.bits → k < n
    → get_or (piece (memory reading words) place n) k false ≡ entry reading words (place + k)
window_bit reading words place n k some low =
    get_or-piece (memory reading words) place n k false low ∙ entry_memory reading words (place + k) some

-- it is the list of as many bits that are its entries
pub window_is : {R : Type 0} (reading : Reading R) (words : List R) (place n : ℕ) (xs : List Bool)
    → 0 < reading.bits → place + n ≤ length words * reading.bits → length xs ≡ n
    → ((k : ℕ) → k < n → entry reading words (place + k) ≡ get_or xs k false)
    → piece (memory reading words) place n ≡ xs
window_is reading words place n xs some fits count same =
    let size = length-window reading words place n fits in
    ext_get_or false (piece (memory reading words) place n) xs (size ∙ sym count) (λ k h.
    let low : k < n = omega arith in
    window_bit reading words place n k some low ∙ same k low)

-- ---- beside it

-- equal entries are equal windows
pub window_same : {R : Type 0} (reading : Reading R) (before after : List R) (place n : ℕ) → 0 < reading.bits
    → place + n ≤ length before * reading.bits → length after ≡ length before
    → ((k : ℕ) → k < n → entry reading after (place + k) ≡ entry reading before (place + k))
    → piece (memory reading after) place n ≡ piece (memory reading before) place n
window_same reading before after place n some fits words same =
    let still : place + n ≤ length after * reading.bits = rw words fits in
    window_is reading after place n (piece (memory reading before) place n) some still
    (length-window reading before place n fits)
    (λ k low. same k low ∙ sym (window_bit reading before place n k some low))

-- what is overwritten before or behind it leaves it
pub window_beside : {R : Type 0} (reading : Reading R) (before after : List R) (place n target m : ℕ) (now : ℕ → Bool)
    → 0 < reading.bits → place + n ≤ length before * reading.bits → (place + n ≤ target) ⊎ (target + m ≤ place)
    → Overwrites reading before after target m now
    → piece (memory reading after) place n ≡ piece (memory reading before) place n
window_beside reading before after place n target m now some fits apart is =
    window_same reading before after place n some fits is.words (λ k low. elim apart [
      | inl behind ↦ is.below (place + k) (omega arith)
      | inr ahead ↦ is.above (place + k) (omega arith)
    ])

-- ---- written

-- one entry of it written is one element set
pub window_written : {R : Type 0} (reading : Reading R) (before after : List R) (place n p i : ℕ) (bit : Bool)
    → 0 < reading.bits → place + n ≤ length before * reading.bits → p ≡ place + i → i < n
    → Writes reading before after p bit
    → piece (memory reading after) place n ≡ set (piece (memory reading before) place n) i bit
window_written reading before after place n p i bit some fits is_place inside is =
    let xs = piece (memory reading before) place n in
    let size : length xs ≡ n = length-window reading before place n fits in
    let still : place + n ≤ length after * reading.bits = rw is.words fits in
    window_is reading after place n (set xs i bit) some still (length-set xs i bit ∙ size) (λ k low.
    elim (cases_eq k i) [
      | inl same ↦
          let here : place + k ≡ p = omega arith in
          ap (entry reading after) here
          ∙ written_there is
          ∙ sym (ap (λ q. get_or (set xs i bit) q false) same ∙ get_or-set_same xs i bit false (omega arith))
      | inr other ↦
          written_others is (place + k) (omega arith)
          ∙ sym (window_bit reading before place n k some low)
          ∙ sym (get_or-set_other xs i k bit false other)
    ])

-- several entries of it overwritten are a list written over
pub window_overwritten : {R : Type 0} (reading : Reading R) (before after : List R) (place n p i m : ℕ)
    (now : ℕ → Bool) (ys : List Bool) → 0 < reading.bits → place + n ≤ length before * reading.bits
    → p ≡ place + i → i + m ≤ n → length ys ≡ m → ((k : ℕ) → k < m → now k ≡ get_or ys k false)
    → Overwrites reading before after p m now
    → piece (memory reading after) place n ≡ with_piece (piece (memory reading before) place n) i ys
window_overwritten reading before after place n p i m now ys some fits is_place inside count same is =
    let xs = piece (memory reading before) place n in
    let size : length xs ≡ n = length-window reading before place n fits in
    let still : place + n ≤ length after * reading.bits = rw is.words fits in
    let within : i + length ys ≤ length xs = omega arith in
    window_is reading after place n (with_piece xs i ys) some still (length-with_piece xs i ys within ∙ size) (λ k low.
    elim (cases_lt k i) [
      | inl early ↦
          is.below (place + k) (omega arith)
          ∙ sym (window_bit reading before place n k some low)
          ∙ sym (with_piece_below xs i ys k false within early)
      | inr late ↦ elim (cases_lt k (i + m)) [
        | inl here ↦
            let j : ℕ = k - i in
            let small : j < m = omega arith in
            let at : place + k ≡ p + j = omega arith in
            let is_k : k ≡ i + j = omega arith in
            ap (entry reading after) at
            ∙ is.there j small
            ∙ same j small
            ∙ sym (with_piece_inside xs i ys k j false within is_k (omega arith))
        | inr past ↦
            is.above (place + k) (omega arith)
            ∙ sym (window_bit reading before place n k some low)
            ∙ sym (with_piece_above xs i ys k false within (omega arith))
      ]
    ])

-- a piece of it copied inside it is that piece written over
pub window_copied : {R : Type 0} (reading : Reading R) (before after : List R) (place n source target from to m : ℕ)
    → 0 < reading.bits → place + n ≤ length before * reading.bits → source ≡ place + from → target ≡ place + to
    → from + m ≤ n → to + m ≤ n → Copies reading before after reading before source target m
    → piece (memory reading after) place n
    ≡ with_piece (piece (memory reading before) place n) to (piece (piece (memory reading before) place n) from m)
window_copied reading before after place n source target from to m some fits is_source is_target from_in to_in is =
    let xs = piece (memory reading before) place n in
    let size : length xs ≡ n = length-window reading before place n fits in
    window_overwritten reading before after place n target to m (λ k. entry reading before (source + k))
    (piece xs from m) some fits is_target to_in (length-piece xs from m (omega arith))
    (λ k small.
    let at : source + k ≡ place + (from + k) = omega arith in
    ap (entry reading before) at
    ∙ sym (window_bit reading before place n (from + k) some (omega arith))
    ∙ sym (get_or-piece xs from m k false small)) is

-- two entries of it exchanged
pub window_swapped : {R : Type 0} (reading : Reading R) (before after : List R) (place n p q i j : ℕ)
    → 0 < reading.bits → place + n ≤ length before * reading.bits → p ≡ place + i → q ≡ place + j → i < n → j < n
    → Swaps reading before after p q 1
    → piece (memory reading after) place n
    ≡ set (set (piece (memory reading before) place n) i (get_or (piece (memory reading before) place n) j false)) j
    (get_or (piece (memory reading before) place n) i false)
window_swapped reading before after place n p q i j some fits is_p is_q i_in j_in is =
    let xs = piece (memory reading before) place n in
    let first = get_or xs j false in
    let second = get_or xs i false in
    let size : length xs ≡ n = length-window reading before place n fits in
    let still : place + n ≤ length after * reading.bits = rw is.words fits in
    let count = length-set (set xs i first) j second ∙ length-set xs i first ∙ size in
    let set_size = length-set xs i first in
    window_is reading after place n (set (set xs i first) j second) some still count (λ k low.
    elim (cases_eq k j) [
      | inl at_j ↦
          let here : place + k ≡ q + 0 = omega arith in
          let there : p + 0 ≡ place + i = omega arith in
          ap (entry reading after) here
          ∙ is.to_second 0 (omega arith)
          ∙ ap (entry reading before) there
          ∙ sym (window_bit reading before place n i some i_in)
          ∙ sym (ap (λ r. get_or (set (set xs i first) j second) r false) at_j
          ∙ get_or-set_same (set xs i first) j second false (omega arith))
      | inr not_j ↦ elim (cases_eq k i) [
        | inl at_i ↦
            let here : place + k ≡ p + 0 = omega arith in
            let there : q + 0 ≡ place + j = omega arith in
            ap (entry reading after) here
            ∙ is.to_first 0 (omega arith)
            ∙ ap (entry reading before) there
            ∙ sym (window_bit reading before place n j some j_in)
            ∙ sym (get_or-set_other (set xs i first) j k second false not_j
            ∙ ap (λ r. get_or (set xs i first) r false) at_i
            ∙ get_or-set_same xs i first false (omega arith))
        | inr not_i ↦
            is.others (place + k) (λ le. omega arith) (λ le. omega arith)
            ∙ sym (window_bit reading before place n k some low)
            ∙ sym (get_or-set_other (set xs i first) j k second false not_j
            ∙ get_or-set_other xs i k first false not_i)
      ]
    ])

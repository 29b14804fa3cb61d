-- What the calls of this crate make of a window, which is a piece of the memory: the list that stands there
-- afterwards, by the list that stood there before.
--
-- Any overwrite: `overwritten_list`. One call each: `filled_list`, `inverted_list`, `reversed_list`,
-- `rotated_left_list`, `rotated_right_list`, `shifted_left_list`, `shifted_right_list`, `moved_list`. With another
-- memory: `copied_list`, `combined_list`, and by it `and_list`, `or_list`, `xor_list`. What lies
-- beside the window is `window_beside` of `WindowLemmas`.
use Rattle.std.proofs.Common.{◌≡◌, ℕ, ◌+◌, ◌-◌, ◌*◌, ◌<◌, ◌≤◌, Bool, false, not, List, ◌++◌, length, map, take, drop}
use Rattle.std.proofs.Common.{reverse, replicate, get_or, min, sym, ap, ap₂, ◌∙◌, inl, inr, arith, length-append}
use Rattle.std.specs.Prelude.{◌&&◌, ◌||◌, if◌then◌else◌, nat_lt}
use Rattle.std.specs.Bool.{xor}
use Rattle.std.specs.Simd.Lanes.{zip2}
use Rattle.std.proofs.lemmas.Bool.{cases_lt}
use Rattle.std.proofs.lemmas.List.{length-map, length-reverse, length-replicate, length-drop, length-take-le}
use Rattle.std.proofs.lemmas.List.{get_or-map, get_or-reverse, get_or-replicate, get_or-drop, get_or-take}
use Rattle.std.proofs.lemmas.List.{get_or_append_left, get_or-append_right}
use Rattle.std.proofs.lemmas.Simd.{length-zip2, get_or-zip2}
use Rattle.bit_addressing_memory.specs.Memory.{Reading, entry, memory, piece, Overwrites, Copies}
use Rattle.bit_addressing_memory.specs.Moves.{Moves}
use Rattle.bit_addressing_memory.proofs.WindowLemmas.{window_is, window_bit, length-window}
use Rattle.bit_slice_paths.specs.Rotations.{rotated_from}
use Rattle.bit_slice_paths.proofs.RotationLemmas.{rotated_from_on, rotated_from_over}
use Rattle.bit_slice_words.proofs.ShiftLemmas.{then_of, else_of}

-- ---- one memory

module _ {R : Type 0} (reading : Reading R) (before after : List R) (place n : ℕ) (some : 0 < reading.bits)
    (fits : place + n ≤ length before * reading.bits) where
  -- the window as it was
  abbrev old_list : List Bool
  old_list = piece (memory reading before) place n

  length-old : length old_list ≡ n
  length-old = length-window reading before place n fits

  old_bit : (k : ℕ) → k < n → get_or old_list k false ≡ entry reading before (place + k)
  old_bit k low = window_bit reading before place n k some low

  -- a window overwritten is the list of as many bits that it was overwritten with
  pub overwritten_list : (now : ℕ → Bool) (ys : List Bool) → length ys ≡ n
      → ((k : ℕ) → k < n → now k ≡ get_or ys k false) → Overwrites reading before after place n now
      → piece (memory reading after) place n ≡ ys
  overwritten_list now ys count same is =
      let still : place + n ≤ length after * reading.bits = rw is.words fits in
      window_is reading after place n ys some still count (λ k low. is.there k low ∙ same k low)

  -- with two lists, one behind the other
  two_lists : (now : ℕ → Bool) (xs ys : List Bool) (m : ℕ) → length xs ≡ m → m + length ys ≡ n
      → ((k : ℕ) → k < m → now k ≡ get_or xs k false)
      → ((k : ℕ) → m ≤ k → k < n → now k ≡ get_or ys (k - m) false)
      → Overwrites reading before after place n now → piece (memory reading after) place n ≡ xs ++ ys
  two_lists now xs ys m size all front back is =
      overwritten_list now (xs ++ ys) (length-append xs ys ∙ omega arith)
      (λ k low. elim (cases_lt k m) [
        | inl early ↦ front k early ∙ sym (get_or_append_left xs ys false k (omega arith))
        | inr late ↦ back k late low ∙ sym (get_or-append_right xs ys m k false size late)
      ]) is

  -- filled with one bit
  pub filled_list : (bit : Bool) → Overwrites reading before after place n (λ _. bit)
      → piece (memory reading after) place n ≡ replicate n bit
  filled_list bit is =
      overwritten_list (λ _. bit) (replicate n bit) (length-replicate n bit)
      (λ k low. sym (get_or-replicate n k bit false low)) is

  -- each bit flipped
  pub inverted_list : Overwrites reading before after place n (λ k. not (entry reading before (place + k)))
      → piece (memory reading after) place n ≡ map not (piece (memory reading before) place n)
  inverted_list is =
      overwritten_list (λ k. not (entry reading before (place + k))) (map not old_list)
      (length-map old_list not ∙ length-old)
      (λ k low. sym (get_or-map not old_list k false false (omega (arith, length-old)) ∙ ap not (old_bit k low))) is

  -- turned round
  pub reversed_list : Overwrites reading before after place n (λ k. entry reading before (place + (n - 1 - k)))
      → piece (memory reading after) place n ≡ reverse (piece (memory reading before) place n)
  reversed_list is =
      overwritten_list (λ k. entry reading before (place + (n - 1 - k))) (reverse old_list)
      (length-reverse old_list ∙ length-old)
      (λ k low.
      sym (get_or-reverse old_list k false (omega (arith, length-old))
      ∙ ap (λ m. get_or old_list (m - 1 - k) false) length-old
      ∙ old_bit (n - 1 - k) (omega arith))) is

  -- rotated to the left
  pub rotated_left_list : (by : ℕ) → by ≤ n
      → Overwrites reading before after place n (λ k. entry reading before (place + rotated_from n by k))
      → piece (memory reading after) place n
      ≡ drop by (piece (memory reading before) place n) ++ take by (piece (memory reading before) place n)
  rotated_left_list by most is =
      let behind = drop by old_list in
      let front = take by old_list in
      let size : length behind ≡ n - by = length-drop by old_list ∙ ap (λ m. m - by) length-old in
      let rest : length front ≡ by = length-take-le by old_list (omega (arith, length-old)) in
      two_lists (λ k. entry reading before (place + rotated_from n by k)) behind front (n - by) size (omega arith)
      (λ k low.
      let at : k + by ≡ by + k = omega arith in
      ap (λ i. entry reading before (place + i)) (rotated_from_on n by k (omega arith) ∙ at)
      ∙ sym (get_or-drop by old_list k false ∙ old_bit (by + k) (omega arith)))
      (λ k late low.
      let at : k + by - n ≡ k - (n - by) = omega arith in
      ap (λ i. entry reading before (place + i)) (rotated_from_over n by k (omega arith) ∙ at)
      ∙ sym (get_or-take by old_list (k - (n - by)) false (omega arith) ∙ old_bit (k - (n - by)) (omega arith))) is

  -- rotated to the right
  pub rotated_right_list : (by : ℕ)
      → Overwrites reading before after place n (λ k. entry reading before (place + rotated_from n (n - by) k))
      → piece (memory reading after) place n
      ≡ drop (n - by) (piece (memory reading before) place n) ++ take (n - by) (piece (memory reading before) place n)
  rotated_right_list by is = rotated_left_list (n - by) (omega arith) is

  -- shifted to the left
  pub shifted_left_list : (by : ℕ) → Overwrites reading before after place n
      (λ k. if nat_lt (k + by) n then entry reading before (place + (k + by)) else false)
      → piece (memory reading after) place n
      ≡ drop by (piece (memory reading before) place n) ++ replicate (min by n) false
  shifted_left_list by is =
      let behind = drop by old_list in
      let zeros = replicate (min by n) false in
      let size : length behind ≡ n - by = length-drop by old_list ∙ ap (λ m. m - by) length-old in
      let rest : length zeros ≡ min by n = length-replicate (min by n) false in
      two_lists (λ k. if nat_lt (k + by) n then entry reading before (place + (k + by)) else false) behind zeros (n - by)
      size (omega arith)
      (λ k low.
      let at : k + by ≡ by + k = omega arith in
      then_of (k + by) n (entry reading before (place + (k + by))) false (omega arith)
      ∙ ap (λ i. entry reading before (place + i)) at
      ∙ sym (get_or-drop by old_list k false ∙ old_bit (by + k) (omega arith)))
      (λ k late low.
      else_of (k + by) n (entry reading before (place + (k + by))) false (omega arith)
      ∙ sym (get_or-replicate (min by n) (k - (n - by)) false false (omega arith))) is

  -- shifted to the right
  pub shifted_right_list : (by : ℕ) → Overwrites reading before after place n
      (λ k. if nat_lt k by then false else entry reading before (place + (k - by)))
      → piece (memory reading after) place n
      ≡ replicate (min by n) false ++ take (n - by) (piece (memory reading before) place n)
  shifted_right_list by is =
      let zeros = replicate (min by n) false in
      let front = take (n - by) old_list in
      let size : length zeros ≡ min by n = length-replicate (min by n) false in
      let rest : length front ≡ n - by = length-take-le (n - by) old_list (omega (arith, length-old)) in
      two_lists (λ k. if nat_lt k by then false else entry reading before (place + (k - by))) zeros front (min by n) size
      (omega arith)
      (λ k low.
      then_of k by false (entry reading before (place + (k - by))) (omega arith)
      ∙ sym (get_or-replicate (min by n) k false false low))
      (λ k late low.
      let i : ℕ = k - min by n in
      let at : k - by ≡ i = omega arith in
      else_of k by false (entry reading before (place + (k - by))) (omega arith)
      ∙ ap (λ j. entry reading before (place + j)) at
      ∙ sym (get_or-take (n - by) old_list i false (omega arith) ∙ old_bit i (omega arith))) is

  -- moved here from elsewhere in the memory
  pub moved_list : (source : ℕ) → source + n ≤ length before * reading.bits → Moves reading before after source place n
      → piece (memory reading after) place n ≡ piece (memory reading before) source n
  moved_list source from is =
      overwritten_list (λ k. entry reading before (source + k)) (piece (memory reading before) source n)
      (length-window reading before source n from)
      (λ k low. sym (window_bit reading before source n k some low)) is

-- ---- with another memory

module _ {R Q : Type 0} (reading : Reading R) (before after : List R) (place n : ℕ) (some : 0 < reading.bits)
    (fits : place + n ≤ length before * reading.bits) (its : Reading Q) (other : List Q) (other_place : ℕ)
    (its_some : 0 < its.bits) (other_fits : other_place + n ≤ length other * its.bits) where
  -- copied here from the other memory
  pub copied_list : Copies reading before after its other other_place place n
      → piece (memory reading after) place n ≡ piece (memory its other) other_place n
  copied_list is =
      overwritten_list reading before after place n some fits (λ k. entry its other (other_place + k))
      (piece (memory its other) other_place n) (length-window its other other_place n other_fits)
      (λ k low. sym (window_bit its other other_place n k its_some low)) is

  -- combined bit by bit with a window of the other memory
  pub combined_list : (how : Bool → Bool → Bool) → Overwrites reading before after place n
      (λ k. how (entry reading before (place + k)) (entry its other (other_place + k)))
      → piece (memory reading after) place n
      ≡ zip2 how (piece (memory reading before) place n) (piece (memory its other) other_place n)
  combined_list how is =
      let xs = piece (memory reading before) place n in
      let ys = piece (memory its other) other_place n in
      let size : length xs ≡ n = length-window reading before place n fits in
      let its_size : length ys ≡ n = length-window its other other_place n other_fits in
      overwritten_list reading before after place n some fits
      (λ k. how (entry reading before (place + k)) (entry its other (other_place + k))) (zip2 how xs ys)
      (length-zip2 how xs ys (size ∙ sym its_size) ∙ size)
      (λ k low.
      sym (get_or-zip2 how xs ys k false false false (omega arith) (omega arith)
      ∙ ap₂ how (window_bit reading before place n k some low) (window_bit its other other_place n k its_some low))) is

  -- by `&&`
  pub and_list : Overwrites reading before after place n
      (λ k. entry reading before (place + k) && entry its other (other_place + k))
      → piece (memory reading after) place n
      ≡ zip2 (λ a b. a && b) (piece (memory reading before) place n) (piece (memory its other) other_place n)
  and_list is = combined_list (λ a b. a && b) is

  -- by `||`
  pub or_list : Overwrites reading before after place n
      (λ k. entry reading before (place + k) || entry its other (other_place + k))
      → piece (memory reading after) place n
      ≡ zip2 (λ a b. a || b) (piece (memory reading before) place n) (piece (memory its other) other_place n)
  or_list is = combined_list (λ a b. a || b) is

  -- by whether they differ
  pub xor_list : Overwrites reading before after place n
      (λ k. xor (entry reading before (place + k)) (entry its other (other_place + k)))
      → piece (memory reading after) place n
      ≡ zip2 xor (piece (memory reading before) place n) (piece (memory its other) other_place n)
  xor_list is = combined_list xor is

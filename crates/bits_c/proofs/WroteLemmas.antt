-- What the calls of the layer, which overwrite a window's entries, write of its list.
--
-- Any of them: `wrote` (by entries), `wrote_beside` (by what stays beside), `window_wrote` (by a window's frame). One
-- each: `set`, `filled`, `inverted`, `reversed`, `rotated_left`, `rotated_right`, `moved`, `copied`, `and_done`,
-- `or_done`, `xor_done`.
use Rattle.std.proofs.Common.{◌≡◌, ℕ, ◌+◌, ◌-◌, ◌*◌, ◌<◌, ◌≤◌, Bool, false, not, List, [], ◌∷◌, ◌++◌, length, map}
use Rattle.std.proofs.Common.{take, drop}
use Rattle.std.proofs.Common.{reverse, replicate, get_or, refl, sym, ap, ◌∙◌}
use Rattle.std.specs.Prelude.{◌&&◌, ◌||◌}
use Rattle.std.specs.Bool.{xor}
use Rattle.std.specs.Simd.Lanes.{zip2}
use Rattle.bit_addressing_memory.specs.Memory.{Reading, entry, memory, piece, Overwrites, Writes, Copies}
use Rattle.bit_addressing_memory.specs.Moves.{Moves}
use Rattle.bit_addressing_memory.proofs.MemoryLemmas.{memory_overwritten}
use Rattle.bit_addressing_memory.proofs.WindowLemmas.{length-window, window_bit}
use Rattle.bit_slice_views_mut.specs.Frame.{KeepsBeside, frame_of}
use Rattle.bit_slice_views_mut.proofs.FrameLemmas.{frame_beside}
use Rattle.bit_slice_words.specs.Rotations.{rotated_from}
use Rattle.bit_slice_words.proofs.ListLemmas.{filled_list, inverted_list, reversed_list, rotated_left_list}
use Rattle.bit_slice_words.proofs.ListLemmas.{rotated_right_list, moved_list, copied_list, and_list, or_list}
use Rattle.bit_slice_words.proofs.ListLemmas.{xor_list}
use Rattle.bits_c.specs.Windows.{Wrote, window}

module _ {R : Type 0} (reading : Reading R) (before after : List R) (start len : ℕ) (some : 0 < reading.bits)
    (fits : start + len ≤ length before * reading.bits) where
  -- a window that was overwritten is the list that stands there
  pub wrote : (now : ℕ → Bool) (bits : List Bool) → Overwrites reading before after start len now
      → piece (memory reading after) start len ≡ bits → Wrote reading before after start bits
  wrote now bits is same =
      let still : start + len ≤ length after * reading.bits = rw is.words fits in
      let size : length bits ≡ len = ap length (sym same) ∙ length-window reading after start len still in
      record {
        list = memory_overwritten reading before after start len now bits some fits size
            (λ k low.
            sym (is.there k low)
            ∙ sym (window_bit reading after start len k some low)
            ∙ ap (λ xs. get_or xs k false) same) is;
        words = is.words;
      }

  -- the same, where the bits beside it are known to stay
  pub wrote_beside : (bits : List Bool) → KeepsBeside reading before after start len
      → piece (memory reading after) start len ≡ bits → Wrote reading before after start bits
  wrote_beside bits is same =
      wrote (λ k. entry reading after (start + k)) bits (record {
        there = λ k low. refl;
        below = is.below;
        above = is.above;
        words = is.words;
      }) same

  pub filled : (bit : Bool) → Overwrites reading before after start len (λ _. bit)
      → Wrote reading before after start (replicate len bit)
  filled bit is = wrote (λ _. bit) (replicate len bit) is (filled_list reading before after start len some fits bit is)

  pub inverted : Overwrites reading before after start len (λ k. not (entry reading before (start + k)))
      → Wrote reading before after start (map not (window reading before start len))
  inverted is =
      wrote (λ k. not (entry reading before (start + k))) (map not (window reading before start len)) is
      (inverted_list reading before after start len some fits is)

  pub reversed : Overwrites reading before after start len (λ k. entry reading before (start + (len - 1 - k)))
      → Wrote reading before after start (reverse (window reading before start len))
  reversed is =
      wrote (λ k. entry reading before (start + (len - 1 - k))) (reverse (window reading before start len)) is
      (reversed_list reading before after start len some fits is)

  pub rotated_left : (by : ℕ) → by ≤ len
      → Overwrites reading before after start len (λ k. entry reading before (start + rotated_from len by k))
      → Wrote reading before after start
      (drop by (window reading before start len) ++ take by (window reading before start len))
  rotated_left by most is =
      wrote (λ k. entry reading before (start + rotated_from len by k))
      (drop by (window reading before start len) ++ take by (window reading before start len)) is
      (rotated_left_list reading before after start len some fits by most is)

  pub rotated_right : (by : ℕ)
      → Overwrites reading before after start len (λ k. entry reading before (start + rotated_from len (len - by) k))
      → Wrote reading before after start
      (drop (len - by) (window reading before start len) ++ take (len - by) (window reading before start len))
  rotated_right by is =
      wrote (λ k. entry reading before (start + rotated_from len (len - by) k))
      (drop (len - by) (window reading before start len) ++ take (len - by) (window reading before start len)) is
      (rotated_right_list reading before after start len some fits by is)

  pub moved : (from : ℕ) → from + len ≤ length before * reading.bits → Moves reading before after from start len
      → Wrote reading before after start (window reading before from len)
  moved from lies is =
      wrote (λ k. entry reading before (from + k)) (window reading before from len) is
      (moved_list reading before after start len some fits from lies is)

-- a writable window that was made and then written
pub window_wrote : {R X : Type 0} (reading : Reading R) (lender its : X) (before was after : List R)
    (start len p n at m : ℕ) (bits : List Bool) → 0 < reading.bits → start + len ≤ length before * reading.bits
    → was ≡ before → p ≡ start → length (piece (memory reading was) p n) ≡ len
    → at + m ≤ length after * reading.bits
    → length (piece (memory reading after) at m) ≡ length (piece (memory reading was) p n)
    → frame_of reading its after at (length (piece (memory reading after) at m))
    ≡ frame_of reading lender was p (length (piece (memory reading was) p n))
    → piece (memory reading after) at m ≡ bits → Wrote reading before after start bits
window_wrote reading lender its before was after start len p n at m bits some fits words place size inside count same now =
    let k : ℕ = length (piece (memory reading was) p n) in
    let beside : KeepsBeside reading before after start len =
    frame_beside reading lender its before was after start p at len k (length (piece (memory reading after) at m)) some
    words place size count same in
    let here : at ≡ start = ap (λ f. f.place) same ∙ place in
    let many : m ≡ len = sym (length-window reading after at m inside) ∙ count ∙ size in
    wrote_beside reading before after start len some fits bits beside
    (ap (λ q. piece (memory reading after) q len) (sym here) ∙ ap (piece (memory reading after) at) (sym many) ∙ now)

-- one bit set
pub set : {R : Type 0} (reading : Reading R) (before after : List R) (index : ℕ) (bit : Bool) → 0 < reading.bits
    → index + 1 ≤ length before * reading.bits → Writes reading before after index bit
    → Wrote reading before after index (bit ∷ [])
set reading before after index bit some fits is = filled reading before after index 1 some fits bit is

module _ {R Q : Type 0} (reading : Reading R) (before after : List R) (start len : ℕ) (some : 0 < reading.bits)
    (fits : start + len ≤ length before * reading.bits) (its : Reading Q) (other : List Q) (other_start : ℕ)
    (its_some : 0 < its.bits) (other_fits : other_start + len ≤ length other * its.bits) where
  pub copied : Copies reading before after its other other_start start len
      → Wrote reading before after start (window its other other_start len)
  copied is =
      wrote reading before after start len some fits (λ k. entry its other (other_start + k))
      (window its other other_start len) is
      (copied_list reading before after start len some fits its other other_start its_some other_fits is)

  pub and_done : Overwrites reading before after start len
      (λ k. entry reading before (start + k) && entry its other (other_start + k))
      → Wrote reading before after start
      (zip2 (λ a b. a && b) (window reading before start len) (window its other other_start len))
  and_done is =
      wrote reading before after start len some fits
      (λ k. entry reading before (start + k) && entry its other (other_start + k))
      (zip2 (λ a b. a && b) (window reading before start len) (window its other other_start len)) is
      (and_list reading before after start len some fits its other other_start its_some other_fits is)

  pub or_done : Overwrites reading before after start len
      (λ k. entry reading before (start + k) || entry its other (other_start + k))
      → Wrote reading before after start
      (zip2 (λ a b. a || b) (window reading before start len) (window its other other_start len))
  or_done is =
      wrote reading before after start len some fits
      (λ k. entry reading before (start + k) || entry its other (other_start + k))
      (zip2 (λ a b. a || b) (window reading before start len) (window its other other_start len)) is
      (or_list reading before after start len some fits its other other_start its_some other_fits is)

  pub xor_done : Overwrites reading before after start len
      (λ k. xor (entry reading before (start + k)) (entry its other (other_start + k)))
      → Wrote reading before after start
      (zip2 xor (window reading before start len) (window its other other_start len))
  xor_done is =
      wrote reading before after start len some fits
      (λ k. xor (entry reading before (start + k)) (entry its other (other_start + k)))
      (zip2 xor (window reading before start len) (window its other other_start len)) is
      (xor_list reading before after start len some fits its other other_start its_some other_fits is)

-- Boxes of bits of which all visible words were written, or what stands beside the list.
--
-- Words: `filled_beside`, `flipped_all`. Boxes: `beside_filled`, `words_flipped`, `aligned`.
use Rattle.std.proofs.Common.{◌≡◌, ℕ, ◌+◌, ◌-◌, ◌*◌, ◌<◌, ◌≤◌, Bool, false, not, List, length, take, drop, map, replicate}
use Rattle.std.proofs.Common.{arith, ap, ap₂, sym, ◌∙◌}
use Rattle.std.proofs.lemmas.List.{places, same_lists, length-replicate, get_or-replicate, drop-map, take-map, length-take-le}
use Rattle.bit_addressing_memory.specs.Memory.{Reading, entry, memory, piece, with_piece, Overwrites}
use Rattle.bit_addressing_memory.specs.Moves.{Moves}
use Rattle.bit_addressing_memory.proofs.MemoryLemmas.{length-memory, memory_overwritten, piece_all}
use Rattle.bit_addressing_memory.proofs.WindowLemmas.{length-window, window_bit}
use Rattle.bit_slice_words.proofs.ListLemmas.{inverted_list, overwritten_list}
use Rattle.bit_containers_vector.specs.Count.{words_for}
use Rattle.bit_containers_vector.proofs.CountLemmas.{words_hold, words_within}
use Rattle.bit_containers_box.specs.Box.{box_bits, box_rest, box_shown, box_visible}
use Rattle.bit_containers_box.specs.Fill.{Aligned, FillsBeside, Flips}
use Rattle.bit_containers_box.specs.declared.boxed.BitBox.{BitBox}
use Rattle.bit_containers_box.proofs.BoxLemmas.{first_bits, shown_is}

-- a piece with its beside written over is that piece in something else
beside_written : (xs : List Bool) (h n all : ℕ) (bit : Bool) → h + n ≤ all → length xs ≡ all
    → with_piece (with_piece xs 0 (replicate h bit)) (h + n) (replicate (all - (h + n)) bit)
    ≡ with_piece (replicate all bit) h (piece xs h n)
unfolding piece with_piece
beside_written xs h n all bit fits size = same_lists _ _ (grind (arith, places)) (λ k d inside. grind (arith, places))

-- that piece
piece_written : (xs : List Bool) (h n all : ℕ) (bit : Bool) → h + n ≤ all → length xs ≡ n
    → piece (with_piece (replicate all bit) h xs) h n ≡ xs
unfolding piece with_piece
piece_written xs h n all bit fits size = same_lists _ _ (grind (arith, places)) (λ k d inside. grind (arith, places))

-- a piece of flipped bits
piece_flipped : (xs : List Bool) (p n : ℕ) → piece (map not xs) p n ≡ map not (piece xs p n)
unfolding piece
piece_flipped xs p n = ap (take n) (drop-map not p xs) ∙ take-map not n (drop p xs)

-- words of which the bits beside a piece were made others
pub filled_beside : {R : Type 0} (reading : Reading R) (before mid after : List R) (h n all : ℕ) (bit : Bool)
    → 0 < reading.bits → all ≡ length before * reading.bits → h + n ≤ all
    → Overwrites reading before mid 0 h (λ _. bit) → Overwrites reading mid after (h + n) (all - (h + n)) (λ _. bit)
    → memory reading after
    ≡ with_piece (replicate (length before * reading.bits) bit) h (piece (memory reading before) h n)
filled_beside reading before mid after h n all bit some is fits front behind =
    let count : length mid * reading.bits ≡ all = ap (λ k. k * reading.bits) front.words ∙ sym is in
    memory_overwritten reading mid after (h + n) (all - (h + n)) (λ _. bit) (replicate (all - (h + n)) bit) some
    (omega (arith, count, fits)) (length-replicate (all - (h + n)) bit)
    (λ k low. sym (get_or-replicate (all - (h + n)) k bit false low)) behind
    ∙ ap (λ xs. with_piece xs (h + n) (replicate (all - (h + n)) bit))
    (memory_overwritten reading before mid 0 h (λ _. bit) (replicate h bit) some (omega (arith, is, fits))
    (length-replicate h bit) (λ k low. sym (get_or-replicate h k bit false low)) front)
    ∙ beside_written (memory reading before) h n all bit fits (length-memory reading before ∙ sym is)
    ∙ ap (λ k. with_piece (replicate k bit) h (piece (memory reading before) h n)) is

-- words of which all bits were flipped
pub flipped_all : {R : Type 0} (reading : Reading R) (before after : List R) (all : ℕ) → 0 < reading.bits
    → all ≡ length before * reading.bits
    → Overwrites reading before after 0 all (λ k. not (entry reading before (0 + k)))
    → memory reading after ≡ map not (memory reading before)
flipped_all reading before after all some is flipped =
    let size : length (memory reading before) ≡ all = length-memory reading before ∙ sym is in
    let now_size : length (memory reading after) ≡ all =
    length-memory reading after ∙ ap (λ k. k * reading.bits) flipped.words ∙ sym is in
    sym (piece_all (memory reading after) all now_size)
    ∙ inverted_list reading before after 0 all some (omega (arith, is)) flipped
    ∙ ap (map not) (piece_all (memory reading before) all size)

module _ {T O : Type 0} {g : _} (reading : Reading T) (old new : BitBox T O g) (some : 0 < reading.bits)
    (fits : old.head + old.len ≤ length old.words.items * reading.bits) where
  -- the list moved to the first bit
  pub aligned : new.head ≡ 0 → new.len ≡ old.len → Moves reading old.words.items new.words.items old.head 0 old.len
      → Aligned reading old new
  aligned head len moved = record {
    bits =
        ap₂ (λ p k. piece (memory reading new.words.items) p k) head len
        ∙ overwritten_list reading old.words.items new.words.items 0 old.len some (omega (arith, fits))
        (λ k. entry reading old.words.items (old.head + k)) (box_bits reading old)
        (length-window reading old.words.items old.head old.len fits)
        (λ k low. sym (window_bit reading old.words.items old.head old.len k some low)) moved;
    head = head;
    count = moved.words;
  }

  module _ (head : new.head ≡ old.head) (len : new.len ≡ old.len) (k : ℕ)
      (is : k ≡ words_for reading.bits (old.head + old.len)) (size : length new.words.items ≡ length old.words.items)
      (behind : drop k new.words.items ≡ drop k old.words.items) where
    new_fits : new.head + new.len ≤ length new.words.items * reading.bits
    new_fits = rw (head, len, size) fits

    same_shown : box_shown reading new ≡ k
    same_shown =
        shown_is reading new new_fits ∙ ap₂ (λ p n. words_for reading.bits (p + n)) head len ∙ sym is

    was_shown : box_shown reading old ≡ k
    was_shown = shown_is reading old fits ∙ sym is

    rest_stays : box_rest reading new ≡ box_rest reading old
    rest_stays =
        ap (λ j. drop j new.words.items) same_shown ∙ behind ∙ ap (λ j. drop j old.words.items) (sym was_shown)

    new_visible : box_visible reading new ≡ take k new.words.items
    new_visible = ap (λ j. take j new.words.items) same_shown

    old_visible : box_visible reading old ≡ take k old.words.items
    old_visible = ap (λ j. take j old.words.items) was_shown

    -- its bits lie in the words that were written
    new_bits : box_bits reading new ≡ piece (memory reading (take k new.words.items)) old.head old.len
    new_bits =
        sym (first_bits reading new some new_fits)
        ∙ ap₂ (λ p n. piece (memory reading (take (words_for reading.bits (p + n)) new.words.items)) p n) head len
        ∙ ap (λ j. piece (memory reading (take j new.words.items)) old.head old.len) (sym is)

    old_bits : piece (memory reading (take k old.words.items)) old.head old.len ≡ box_bits reading old
    old_bits =
        ap (λ j. piece (memory reading (take j old.words.items)) old.head old.len) is
        ∙ first_bits reading old some fits

    -- each bit beside the list made another one
    pub beside_filled : (bit : Bool)
        → memory reading (take k new.words.items)
        ≡ with_piece (replicate (k * reading.bits) bit) old.head
        (piece (memory reading (take k old.words.items)) old.head old.len)
        → FillsBeside reading old new bit
    beside_filled bit written =
        let within : k ≤ length old.words.items =
        rw is (words_within reading.bits (old.head + old.len) (length old.words.items) some fits) in
        let hold : old.head + old.len ≤ k * reading.bits =
        rw is (words_hold reading.bits (old.head + old.len) some) in
        let list : length (box_bits reading old) ≡ old.len =
        length-window reading old.words.items old.head old.len fits in
        let long : length (box_visible reading old) ≡ k =
        ap length old_visible ∙ length-take-le k old.words.items within in
        let now : memory reading (take k new.words.items)
        ≡ with_piece (replicate (k * reading.bits) bit) old.head (box_bits reading old) =
        written ∙ ap (with_piece (replicate (k * reading.bits) bit) old.head) old_bits in
        record {
          bits =
              new_bits
              ∙ ap (λ xs. piece xs old.head old.len) now
              ∙ piece_written (box_bits reading old) old.head old.len (k * reading.bits) bit hold list;
          words =
              ap (memory reading) new_visible
              ∙ now
              ∙ ap (λ j. with_piece (replicate (j * reading.bits) bit) old.head (box_bits reading old)) (sym long);
          head = head;
          rest = rest_stays;
        }

    -- each bit of the visible words flipped
    pub words_flipped : memory reading (take k new.words.items) ≡ map not (memory reading (take k old.words.items))
        → Flips reading old new
    words_flipped flipped = record {
      bits =
          new_bits
          ∙ ap (λ xs. piece xs old.head old.len) flipped
          ∙ piece_flipped (memory reading (take k old.words.items)) old.head old.len
          ∙ ap (map not) old_bits;
      words =
          ap (memory reading) new_visible
          ∙ flipped
          ∙ ap (λ ws. map not (memory reading ws)) (sym old_visible);
      head = head;
      rest = rest_stays;
    }

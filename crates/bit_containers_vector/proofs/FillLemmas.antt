-- Vectors of bits of which all visible words were written, or what stands beside the list.
use Rattle.std.proofs.Common.{◌≡◌, ℕ, ◌+◌, ◌-◌, ◌*◌, ◌<◌, ◌≤◌, Bool, false, not, List, length, take, drop, map, replicate}
use Rattle.std.proofs.Common.{arith, ap, ap₂, sym, ◌∙◌, inl, inr}
use Rattle.std.proofs.Math.Nat.{mul-le-mul_right}
use Rattle.std.specs.Prelude.{vec_capacity}
use Rattle.std.proofs.lemmas.List.{places, same_lists, length-replicate, get_or-replicate, length-take-le, drop-map, take-map}
use Rattle.bit_addressing_memory.specs.Memory.{Reading, entry, memory, piece, with_piece, Overwrites}
use Rattle.bit_addressing_memory.specs.Moves.{Moves}
use Rattle.bit_addressing_memory.proofs.MemoryLemmas.{length-memory, memory_overwritten}
use Rattle.bit_addressing_memory.proofs.MemoryLemmas.{piece_all}
use Rattle.bit_addressing_memory.proofs.WindowLemmas.{window_beside, window_bit}
use Rattle.bit_slice_words.proofs.ListLemmas.{inverted_list, overwritten_list}
use Rattle.bit_containers_vector.specs.Count.{words_for}
use Rattle.bit_containers_vector.specs.Fill.{Aligned, FillsBeside, FillsWords, Flips}
use Rattle.bit_containers_vector.specs.Lending.{HasWords}
use Rattle.bit_containers_vector.specs.Vector.{vec_bits, visible}
use Rattle.bit_containers_vector.specs.declared.vector.BitVec.{BitVec}
use Rattle.bit_containers_vector.proofs.CountLemmas.{words_hold, words_within}
use Rattle.bit_containers_vector.proofs.GrownLemmas.{piece_taken}
use Rattle.bit_containers_vector.proofs.MadeLemmas.{all_visible}
use Rattle.bit_containers_vector.proofs.VectorLemmas.{length-visible}
use Rattle.bit_containers_vector.proofs.WordLemmas.{length-bits}

-- a piece with its beside written over is that piece in something else
beside_written : (xs : List Bool) (h n all : ℕ) (bit : Bool) → h + n ≤ all → length xs ≡ all
    → with_piece (with_piece xs 0 (replicate h bit)) (h + n) (replicate (all - (h + n)) bit)
    ≡ with_piece (replicate all bit) h (piece xs h n)
unfolding piece with_piece
beside_written xs h n all bit fits size = same_lists _ _ (grind (arith, places)) (λ k d inside. grind (arith, places))

-- a piece of flipped bits
piece_flipped : (xs : List Bool) (p n : ℕ) → piece (map not xs) p n ≡ map not (piece xs p n)
unfolding piece
piece_flipped xs p n = ap (take n) (drop-map not p xs) ∙ take-map not n (drop p xs)

-- the list moved to the first bit
pub aligned : {T O : Type 0} {g : _} (reading : Reading T) (old new : BitVec T O g) → 0 < reading.bits
    → old.head + old.len ≤ length old.words.items * reading.bits → new.head ≡ 0
    → new.len ≡ old.len → vec_capacity new.words ≡ vec_capacity old.words
    → Moves reading old.words.items new.words.items old.head 0 old.len → Aligned reading old new
aligned reading old new some fits head len capacity moved =
    let held : length old.words.items * reading.bits ≤ vec_capacity old.words * reading.bits =
    mul-le-mul_right reading.bits (omega (arith, old.words.ok.0, old.words.ok.1)) in
    let product : vec_capacity new.words * reading.bits ≡ vec_capacity old.words * reading.bits =
    ap (λ k. k * reading.bits) capacity in
    record {
      bits =
          ap₂ (λ p k. piece (memory reading new.words.items) p k) head len
          ∙ overwritten_list reading old.words.items new.words.items 0 old.len some (omega (arith, fits))
          (λ k. entry reading old.words.items (old.head + k)) (vec_bits reading old) (length-bits reading old fits)
          (λ k low. sym (window_bit reading old.words.items old.head old.len k some low)) moved;
      head = head;
      room = omega (arith, head, held, product, fits);
    }

module _ {T O : Type 0} {g : _} (reading : Reading T) (old new : BitVec T O g) (some : 0 < reading.bits)
    (fits : old.head + old.len ≤ length old.words.items * reading.bits) (head : new.head ≡ old.head)
    (len : new.len ≡ old.len) (capacity : vec_capacity new.words ≡ vec_capacity old.words)
    (count : length new.words.items ≡ words_for reading.bits (old.head + old.len)) where
  new_fits : new.head + new.len ≤ length new.words.items * reading.bits
  new_fits =
      let product : length new.words.items * reading.bits ≡ words_for reading.bits (old.head + old.len) * reading.bits =
      ap (λ k. k * reading.bits) count in
      omega (arith, head, len, product, words_hold reading.bits (old.head + old.len) some)

  all_shown : visible reading new ≡ new.words.items
  all_shown = all_visible reading new new_fits (count ∙ ap₂ (λ p k. words_for reading.bits (p + k)) (sym head) (sym len))

  same_count : length new.words.items ≡ length (visible reading old)
  same_count = count ∙ sym (length-visible reading old some fits)

  same_room : vec_capacity new.words * reading.bits - new.head ≡ vec_capacity old.words * reading.bits - old.head
  same_room = ap₂ (λ c p. c * reading.bits - p) capacity head

  -- the visible words made others
  pub words_written : (words : List T) → new.words.items ≡ words → HasWords reading old words new
  words_written words is = record {
    words = all_shown ∙ is;
    bits =
        ap₂ (λ p k. piece (memory reading new.words.items) p k) head (len ∙ sym (length-bits reading old fits))
        ∙ ap (λ ws. piece (memory reading ws) old.head (length (vec_bits reading old))) is;
    head = head;
    room = same_room;
  }

  -- each visible word made another one
  pub words_filled : (word : T) → new.words.items ≡ replicate (length new.words.items) word
      → FillsWords reading old new word
  words_filled word filled = record {
    words = all_shown ∙ filled ∙ ap (λ k. replicate k word) same_count;
    bits =
        ap₂ (λ p k. piece (memory reading new.words.items) p k) head (len ∙ sym (length-bits reading old fits))
        ∙ ap (λ ws. piece (memory reading ws) old.head (length (vec_bits reading old))) (sym all_shown);
    head = head;
    room = same_room;
  }

  module _ (mid : List T) (all : ℕ) (cut : mid ≡ take (words_for reading.bits (old.head + old.len)) old.words.items)
      (is : all ≡ length mid * reading.bits) where
    mid_bits : piece (memory reading mid) old.head old.len ≡ vec_bits reading old
    mid_bits =
        ap (λ ws. piece (memory reading ws) old.head old.len) cut
        ∙ piece_taken reading old.words.items (words_for reading.bits (old.head + old.len)) old.head old.len
        (words_within reading.bits (old.head + old.len) (length old.words.items) some fits)
        (words_hold reading.bits (old.head + old.len) some)

    mid_count : length mid ≡ words_for reading.bits (old.head + old.len)
    mid_count =
        ap length cut
        ∙ length-take-le (words_for reading.bits (old.head + old.len)) old.words.items
        (words_within reading.bits (old.head + old.len) (length old.words.items) some fits)

    mid_fits : old.head + old.len ≤ all
    mid_fits =
        let product : length mid * reading.bits ≡ words_for reading.bits (old.head + old.len) * reading.bits =
        ap (λ k. k * reading.bits) mid_count in
        omega (arith, is, product, words_hold reading.bits (old.head + old.len) some)

    -- each bit beside the list made another one
    pub beside_filled : (front : List T) (bit : Bool) → Overwrites reading mid front 0 old.head (λ _. bit)
        → Overwrites reading front new.words.items (old.head + old.len) (all - (old.head + old.len)) (λ _. bit)
        → FillsBeside reading old new bit
    beside_filled front bit before behind =
        let h : ℕ = old.head in
        let n : ℕ = old.len in
        let front_count : length front * reading.bits ≡ all = ap (λ k. k * reading.bits) before.words ∙ sym is in
        let in_mid : h + n ≤ length mid * reading.bits = omega (arith, is, mid_fits) in
        let in_front : h + n ≤ length front * reading.bits = omega (arith, front_count, mid_fits) in
        let long : length (visible reading old) * reading.bits ≡ all =
        ap (λ k. k * reading.bits) (length-visible reading old some fits ∙ sym mid_count) ∙ sym is in
        record {
          bits =
              ap₂ (λ p k. piece (memory reading new.words.items) p k) head len
              ∙ window_beside reading front new.words.items h n (h + n) (all - (h + n)) (λ _. bit) some in_front
              (inl (omega arith)) behind
              ∙ window_beside reading mid front h n 0 h (λ _. bit) some in_mid (inr (omega arith)) before
              ∙ mid_bits;
          words =
              ap (memory reading) all_shown
              ∙ memory_overwritten reading front new.words.items (h + n) (all - (h + n)) (λ _. bit)
              (replicate (all - (h + n)) bit) some (omega (arith, front_count, mid_fits))
              (length-replicate (all - (h + n)) bit)
              (λ k low. sym (get_or-replicate (all - (h + n)) k bit false low)) behind
              ∙ ap (λ xs. with_piece xs (h + n) (replicate (all - (h + n)) bit))
              (memory_overwritten reading mid front 0 h (λ _. bit) (replicate h bit) some (omega (arith, in_mid))
              (length-replicate h bit) (λ k low. sym (get_or-replicate h k bit false low)) before)
              ∙ beside_written (memory reading mid) h n all bit mid_fits (length-memory reading mid ∙ sym is)
              ∙ ap₂ (λ k xs. with_piece (replicate k bit) h xs) (sym long) mid_bits;
          head = head;
          room = same_room;
        }

    -- each bit of the visible words flipped
    pub words_flipped : Overwrites reading mid new.words.items 0 all (λ k. not (entry reading mid (0 + k)))
        → Flips reading old new
    words_flipped flipped =
        let size : length (memory reading mid) ≡ all = length-memory reading mid ∙ sym is in
        let now_size : length (memory reading new.words.items) ≡ all =
        length-memory reading new.words.items ∙ ap (λ k. k * reading.bits) flipped.words ∙ sym is in
        let whole : memory reading new.words.items ≡ map not (memory reading mid) =
        sym (piece_all (memory reading new.words.items) all now_size)
        ∙ inverted_list reading mid new.words.items 0 all some (omega (arith, is)) flipped
        ∙ ap (map not) (piece_all (memory reading mid) all size) in
        let held : length (vec_bits reading old) ≡ old.len = length-bits reading old fits in
        let was : mid ≡ visible reading old =
        cut ∙ ap (λ k. take (words_for reading.bits (old.head + k)) old.words.items) (sym held) in
        record {
          bits =
              ap₂ (λ p k. piece (memory reading new.words.items) p k) head len
              ∙ ap (λ xs. piece xs old.head old.len) whole
              ∙ piece_flipped (memory reading mid) old.head old.len
              ∙ ap (map not) mid_bits;
          words = ap (memory reading) all_shown ∙ whole ∙ ap (λ ws. map not (memory reading ws)) was;
          head = head;
          room = same_room;
        }

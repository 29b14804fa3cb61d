-- Vectors of bits whose visible words are lent.
use Rattle.std.proofs.Common.{◌≡◌, ℕ, ◌+◌, ◌*◌, ◌<◌, ◌≤◌, ◌++◌, List, length, take, arith, ap, sym, ◌∙◌, refl}
use Rattle.std.proofs.lemmas.List.{append_assoc, take_at, take-take}
use Rattle.bit_addressing_memory.specs.Memory.{Reading, memory, piece}
use Rattle.bit_containers_vector.specs.Count.{words_for}
use Rattle.bit_containers_vector.specs.Lending.{as_many, with_words, HasWords}
use Rattle.bit_containers_vector.specs.Vector.{vec_bits, visible}
use Rattle.bit_containers_vector.specs.declared.vector.BitVec.{BitVec}
use Rattle.bit_containers_vector.proofs.CountLemmas.{words_hold, words_within}
use Rattle.bit_containers_vector.proofs.GrownLemmas.{piece_taken}
use Rattle.bit_containers_vector.proofs.VectorLemmas.{length-visible}
use Rattle.bit_containers_vector.proofs.WordLemmas.{length-bits}

-- the first of items that were written over
first_ones : {T : Type 0} (n w : ℕ) (ws more rest : List T) → length ws ≡ w → w ≤ n
    → take w (take n ((ws ++ more) ++ rest)) ≡ ws
first_ones n w ws more rest count few =
    take-take w n ((ws ++ more) ++ rest) few
    ∙ ap (take w) (append_assoc ws more rest)
    ∙ take_at ws (more ++ rest) w count

module _ {T O : Type 0} {g : _} (reading : Reading T) (v : BitVec T O g) (some : 0 < reading.bits)
    (fits : v.head + v.len ≤ length v.words.items * reading.bits) where
  -- the bits lie in the visible words
  pub shown_fits : v.head + v.len ≤ length (visible reading v) * reading.bits
  shown_fits =
      let product : length (visible reading v) * reading.bits ≡ words_for reading.bits (v.head + v.len) * reading.bits =
      ap (λ k. k * reading.bits) (length-visible reading v some fits) in
      omega (arith, product, words_hold reading.bits (v.head + v.len) some)

  -- and are what these show
  pub shown_bits : piece (memory reading (visible reading v)) v.head v.len ≡ vec_bits reading v
  shown_bits =
      ap (λ k. piece (memory reading (take (words_for reading.bits (v.head + k)) v.words.items)) v.head v.len)
      (length-bits reading v fits)
      ∙ piece_taken reading v.words.items (words_for reading.bits (v.head + v.len)) v.head v.len
      (words_within reading.bits (v.head + v.len) (length v.words.items) some fits)
      (words_hold reading.bits (v.head + v.len) some)

  -- a vector that was given other visible words has these
  pub has_words : (ws : List T) → length ws ≡ length (visible reading v) → HasWords reading v ws (with_words v ws)
  has_words ws same =
      let new = with_words v ws in
      let w : ℕ = words_for reading.bits (v.head + v.len) in
      let count : length ws ≡ w = same ∙ length-visible reading v some fits in
      let few : w ≤ length v.words.items = words_within reading.bits (v.head + v.len) (length v.words.items) some fits in
      let held : v.head + v.len ≤ length new.words.items * reading.bits = rw (← as_many v.words ws) fits in
      let all : w ≤ length new.words.items = rw (← as_many v.words ws) few in
      let front : take w new.words.items ≡ ws =
      first_ones v.words.len w ws _ _ count (omega (arith, few, v.words.ok.0)) in
      let size : length (vec_bits reading v) ≡ v.len = length-bits reading v fits in
      record {
        words =
            ap (λ k. take (words_for reading.bits (v.head + k)) new.words.items) (length-bits reading new held) ∙ front;
        bits =
            sym (piece_taken reading new.words.items w v.head v.len all
            (words_hold reading.bits (v.head + v.len) some))
            ∙ ap (λ xs. piece (memory reading xs) v.head v.len) front
            ∙ ap (piece (memory reading ws) v.head) (sym size);
        head = refl;
        room = refl;
      }

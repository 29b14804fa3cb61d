-- A vector of bits that has grown at its end.
use Rattle.std.specs.Prelude.{ℕ, ◌≡◌, ◌+◌, ◌-◌, ◌*◌, ◌++◌, Bool, false, List, length, replicate, take}
use Rattle.bit_addressing_memory.specs.Memory.{Reading, memory, with_piece}
use Rattle.bit_containers_vector.specs.Count.{words_for}
use Rattle.bit_containers_vector.specs.Vector.{vec_bits, vec_head, vec_words, visible}
use Rattle.bit_containers_vector.specs.declared.vector.BitVec.{BitVec}

-- new is old with the bits ys behind its own, from the same head on. A word that is visible now and was not is zero
-- beside them, and no other bit changed.
pub record Extends {T O : Type 0} {g : _} (reading : Reading T) (old new : BitVec T O g) (ys : List Bool)
    : Type 0 where
  pub bits : vec_bits reading new ≡ vec_bits reading old ++ ys
  pub head : vec_head new ≡ vec_head old
  pub words : memory reading (visible reading new)
      ≡ with_piece (memory reading (visible reading old)
      ++ replicate ((length (visible reading new) - length (visible reading old)) * reading.bits) false)
      (vec_head old + length (vec_bits reading old)) ys

-- new is old with so many more bits behind its own: those that stood there in visible words, and zeros
pub record Lengthened {T O : Type 0} {g : _} (reading : Reading T) (zero : T) (old new : BitVec T O g) (more : ℕ)
    : Type 0 where
  pub words : vec_words new ≡ take (words_for reading.bits (old.head + old.len)) (vec_words old)
      ++ replicate (words_for reading.bits (old.head + (old.len + more))
      - words_for reading.bits (old.head + old.len)) zero
  pub head : new.head ≡ old.head
  pub len : new.len ≡ old.len + more

-- v has the bits ys from the head h on, and 0 beside them in its visible words
pub record HoldsAlone {T O : Type 0} {g : _} (reading : Reading T) (v : BitVec T O g) (h : ℕ) (ys : List Bool)
    : Type 0 where
  pub bits : vec_bits reading v ≡ ys
  pub head : vec_head v ≡ h
  pub words : memory reading (visible reading v)
      ≡ with_piece (replicate (length (visible reading v) * reading.bits) false) h ys

-- v has one bit n times from its first word on, and its visible words are filled with it
pub record Repeats {T O : Type 0} {g : _} (reading : Reading T) (v : BitVec T O g) (bit : Bool) (n : ℕ)
    : Type 0 where
  pub bits : vec_bits reading v ≡ replicate n bit
  pub head : vec_head v ≡ 0
  pub words : memory reading (visible reading v) ≡ replicate (length (visible reading v) * reading.bits) bit

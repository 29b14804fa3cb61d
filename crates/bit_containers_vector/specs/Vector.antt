-- A vector of bits, as contracts see it.
--
-- Its list: `vec_bits`. Where it lies: `vec_words`, `vec_head`, `visible`. Its memory: `words_held`, `room`, `HasRoomFor`,
-- `HoldsBlock`.
use Rattle.std.specs.Prelude.{ℕ, ◌≡◌, ◌+◌, ◌-◌, ◌*◌, ◌≤◌, Bool, List, length, take, vec_capacity}
use Rattle.std.specs.Vec.{SameBlock}
use Rattle.std.specs.declared.vec.Vec.{Vec}
use Rattle.std.specs.declared.alloc.Global.{Global}
use Rattle.bit_addressing_memory.specs.Memory.{Reading, memory, piece}
use Rattle.bit_slice_views_mut.specs.Combined.{combined}
use Rattle.bit_slice_views_mut.specs.Frame.{Frame, frame_of}
use Rattle.bit_containers_vector.specs.Count.{words_for}
use Rattle.bit_containers_vector.specs.declared.vector.BitVec.{BitVec}

-- its bits, at words that are read so
abbrev pub vec_bits : {T O : Type 0} {g : _} → Reading T → BitVec T O g → List Bool
vec_bits reading v = piece (memory reading v.words.items) v.head v.len

-- the words that it holds, and for how many its memory is
abbrev pub vec_words : {T O : Type 0} {g : _} → BitVec T O g → List T
vec_words v = v.words.items

abbrev pub words_held : {T O : Type 0} {g : _} → BitVec T O g → ℕ
words_held v = vec_capacity v.words

-- the index of its first bit in the first word
abbrev pub vec_head : {T O : Type 0} {g : _} → BitVec T O g → ℕ
vec_head v = v.head

-- the visible words: those up to its last bit, or up to its head where it has no bit
abbrev pub visible : {T O : Type 0} {g : _} → Reading T → BitVec T O g → List T
visible reading v = take (words_for reading.bits (v.head + length (vec_bits reading v))) v.words.items

-- for how many bits it has memory
abbrev pub room : {T O : Type 0} {g : _} → Reading T → BitVec T O g → ℕ
room reading v = vec_capacity v.words * reading.bits - v.head

-- memory for so many bits more
abbrev pub HasRoomFor : {T O : Type 0} {g : _} → Reading T → BitVec T O g → ℕ → Type 0
HasRoomFor reading v more = length (vec_bits reading v) + more ≤ room reading v

-- its memory is the block of these words: nothing was allocated, and no capacity went
abbrev pub HoldsBlock : {T O : Type 0} {g : _} → Vec T Global → BitVec T O g → Type 0
HoldsBlock words v = SameBlock words v.words

-- new is old, but for words that are not visible and for the memory
pub record IsSame {T O : Type 0} {g : _} (reading : Reading T) (old new : BitVec T O g) : Type 0 where
  pub bits : vec_bits reading new ≡ vec_bits reading old
  pub words : visible reading new ≡ visible reading old
  pub head : vec_head new ≡ vec_head old

-- the same, and its memory is no less
pub record IsAsBefore {T O : Type 0} {g : _} (reading : Reading T) (old new : BitVec T O g) : Type 0 where
  pub bits : vec_bits reading new ≡ vec_bits reading old
  pub words : visible reading new ≡ visible reading old
  pub head : vec_head new ≡ vec_head old
  pub room : room reading old ≤ room reading new

-- new is the first n bits of old, or all where it has no more, at the same head, with the same memory: each word that
-- stays visible is as it was
pub record Shortens {T O : Type 0} {g : _} (reading : Reading T) (old new : BitVec T O g) (n : ℕ) : Type 0 where
  pub bits : vec_bits reading new ≡ take n (vec_bits reading old)
  pub words : visible reading new
      ≡ take (words_for reading.bits (new.head + length (vec_bits reading new))) (visible reading old)
  pub head : vec_head new ≡ vec_head old
  pub room : room reading new ≡ room reading old

-- new is the n bits from the head of old on, some of them dead bits of old, at the same head, with the same memory: each
-- word that stays visible is as it was
pub record Shows {T O : Type 0} {g : _} (reading : Reading T) (old new : BitVec T O g) (n : ℕ) : Type 0 where
  pub bits : vec_bits reading new ≡ piece (memory reading (visible reading old)) (vec_head old) n
  pub words : visible reading new ≡ take (words_for reading.bits (vec_head old + n)) (visible reading old)
  pub head : vec_head new ≡ vec_head old
  pub room : room reading new ≡ room reading old

-- what no write of bits of the list changes: the memory, how many words there are, the head and the dead bits
abbrev pub vec_frame : {T O : Type 0} {g : _} → Reading T → BitVec T O g → Frame ℕ
vec_frame reading v = frame_of reading (vec_capacity v.words) v.words.items v.head (length (vec_bits reading v))

-- after is before with each bit combined with another list's, and nothing beside the list changed
pub record Combines {T O : Type 0} {g : _} (reading : Reading T) (how : Bool → Bool → Bool) (before : BitVec T O g)
    (others : List Bool) (after : BitVec T O g) : Type 0 where
  pub bits : vec_bits reading after ≡ combined how (vec_bits reading before) others
  pub frame : vec_frame reading after ≡ vec_frame reading before

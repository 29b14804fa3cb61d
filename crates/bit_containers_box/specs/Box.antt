-- A box of bits, as contracts see it.
--
-- Its list: `box_bits`. Where it lies: `box_words`, `box_head`; which of its words are visible: `box_visible`, and what
-- it holds behind them: `box_rest`. Its memory: `box_held`, `box_room`, `KeepsBlock`. How it is made: `IsBoxed`. What is
-- written of it: `Combines`.
use Rattle.std.specs.Prelude.{ℕ, ◌≡◌, ◌+◌, ◌-◌, ◌*◌, [], Bool, List, length, take, drop, vec_capacity}
use Rattle.bit_addressing_memory.specs.Memory.{Reading, memory, piece}
use Rattle.bit_containers_vector.specs.Count.{words_for}
use Rattle.bit_containers_vector.specs.Vector.{HoldsBlock}
use Rattle.bit_containers_vector.specs.declared.vector.BitVec.{BitVec}
use Rattle.bit_slice_views_mut.specs.Combined.{combined}
use Rattle.bit_slice_views_mut.specs.Frame.{Frame, frame_of}
use Rattle.bit_containers_box.specs.declared.boxed.BitBox.{BitBox}

-- all words that it holds
abbrev pub box_words : {T O : Type 0} {g : _} → BitBox T O g → List T
box_words b = b.words.items

-- the index of its first bit in the first word
abbrev pub box_head : {T O : Type 0} {g : _} → BitBox T O g → ℕ
box_head b = b.head

-- its bits, at words that are read so
abbrev pub box_bits : {T O : Type 0} {g : _} → Reading T → BitBox T O g → List Bool
box_bits reading b = piece (memory reading b.words.items) b.head b.len

-- how many words are visible: those up to its last bit, or up to its head where it has no bit
abbrev pub box_shown : {T O : Type 0} {g : _} → Reading T → BitBox T O g → ℕ
box_shown reading b = words_for reading.bits (b.head + length (box_bits reading b))

-- these words
abbrev pub box_visible : {T O : Type 0} {g : _} → Reading T → BitBox T O g → List T
box_visible reading b = take (box_shown reading b) b.words.items

-- the words behind them
abbrev pub box_rest : {T O : Type 0} {g : _} → Reading T → BitBox T O g → List T
box_rest reading b = drop (box_shown reading b) b.words.items

-- for how many words its memory is
abbrev pub box_held : {T O : Type 0} {g : _} → BitBox T O g → ℕ
box_held b = vec_capacity b.words

-- and for how many bits, from its first one on
abbrev pub box_room : {T O : Type 0} {g : _} → Reading T → BitBox T O g → ℕ
box_room reading b = vec_capacity b.words * reading.bits - b.head

-- a vector of bits has the memory of b: nothing was allocated, and no capacity went
abbrev pub KeepsBlock : {T O : Type 0} {g : _} → BitBox T O g → BitVec T O g → Type 0
KeepsBlock b v = HoldsBlock b.words v

-- b has these bits from the head h on in these words, and no word behind the visible ones
pub record IsBoxed {T O : Type 0} {g : _} (reading : Reading T) (xs : List Bool) (h : ℕ) (ws : List T)
    (b : BitBox T O g) : Type 0 where
  pub bits : box_bits reading b ≡ xs
  pub head : box_head b ≡ h
  pub words : box_words b ≡ ws
  pub rest : box_rest reading b ≡ []

-- what no write of bits of the list changes: how many words there are, the head, and the bits beside the list
abbrev pub box_frame : {T O : Type 0} {g : _} → Reading T → BitBox T O g → Frame (Unit {0})
box_frame reading b = frame_of reading tt b.words.items b.head (length (box_bits reading b))

-- after is before with each bit combined with another list's, and nothing beside the list changed
pub record Combines {T O : Type 0} {g : _} (reading : Reading T) (how : Bool → Bool → Bool) (before : BitBox T O g)
    (others : List Bool) (after : BitBox T O g) : Type 0 where
  pub bits : box_bits reading after ≡ combined how (box_bits reading before) others
  pub frame : box_frame reading after ≡ box_frame reading before

-- What is written of the visible words of a box of bits, or beside its list, and what a copy of it holds.
use Rattle.std.specs.Prelude.{ℕ, ◌≡◌, ◌*◌, [], Bool, false, List, length, map, not, replicate}
use Rattle.bit_addressing_memory.specs.Memory.{Reading, memory, with_piece}
use Rattle.bit_containers_box.specs.Box.{box_bits, box_head, box_rest, box_visible, box_words}
use Rattle.bit_containers_box.specs.declared.boxed.BitBox.{BitBox}

-- b has the bits ys from the head h on, and 0 beside them in its words, which are all visible
pub record HoldsAlone {T O : Type 0} {g : _} (reading : Reading T) (b : BitBox T O g) (h : ℕ) (ys : List Bool)
    : Type 0 where
  pub bits : box_bits reading b ≡ ys
  pub head : box_head b ≡ h
  pub words : memory reading (box_words b)
      ≡ with_piece (replicate (length (box_words b) * reading.bits) false) h ys
  pub rest : box_rest reading b ≡ []

-- new is old with each dead bit this one
pub record FillsBeside {T O : Type 0} {g : _} (reading : Reading T) (old new : BitBox T O g) (bit : Bool)
    : Type 0 where
  pub bits : box_bits reading new ≡ box_bits reading old
  pub words : memory reading (box_visible reading new)
      ≡ with_piece (replicate (length (box_visible reading old) * reading.bits) bit) (box_head old)
      (box_bits reading old)
  pub head : box_head new ≡ box_head old
  pub rest : box_rest reading new ≡ box_rest reading old

-- new has the bits of old from its first word on, and holds as many words
pub record Aligned {T O : Type 0} {g : _} (reading : Reading T) (old new : BitBox T O g) : Type 0 where
  pub bits : box_bits reading new ≡ box_bits reading old
  pub head : box_head new ≡ 0
  pub count : length (box_words new) ≡ length (box_words old)

-- new is old with each bit of its visible words flipped, dead bits too
pub record Flips {T O : Type 0} {g : _} (reading : Reading T) (old new : BitBox T O g) : Type 0 where
  pub bits : box_bits reading new ≡ map not (box_bits reading old)
  pub words : memory reading (box_visible reading new) ≡ map not (memory reading (box_visible reading old))
  pub head : box_head new ≡ box_head old
  pub rest : box_rest reading new ≡ box_rest reading old

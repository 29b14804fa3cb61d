-- What is written of all visible words of a vector of bits, or beside its list.
use Rattle.std.specs.Prelude.{◌≡◌, ◌+◌, ◌*◌, Bool, length, map, not, replicate}
use Rattle.bit_addressing_memory.specs.Memory.{Reading, memory, piece, with_piece}
use Rattle.bit_containers_vector.specs.Vector.{vec_bits, vec_head, visible, room}
use Rattle.bit_containers_vector.specs.declared.vector.BitVec.{BitVec}

-- new is old with each visible word this one: as many bits from the same head on
pub record FillsWords {T O : Type 0} {g : _} (reading : Reading T) (old new : BitVec T O g) (word : T) : Type 0 where
  pub words : visible reading new ≡ replicate (length (visible reading old)) word
  pub bits : vec_bits reading new
      ≡ piece (memory reading (visible reading new)) (vec_head old) (length (vec_bits reading old))
  pub head : vec_head new ≡ vec_head old
  pub room : room reading new ≡ room reading old

-- new is old with each dead bit this one
pub record FillsBeside {T O : Type 0} {g : _} (reading : Reading T) (old new : BitVec T O g) (bit : Bool)
    : Type 0 where
  pub bits : vec_bits reading new ≡ vec_bits reading old
  pub words : memory reading (visible reading new)
      ≡ with_piece (replicate (length (visible reading old) * reading.bits) bit) (vec_head old) (vec_bits reading old)
  pub head : vec_head new ≡ vec_head old
  pub room : room reading new ≡ room reading old

-- new has the bits of old from its first word on
pub record Aligned {T O : Type 0} {g : _} (reading : Reading T) (old new : BitVec T O g) : Type 0 where
  pub bits : vec_bits reading new ≡ vec_bits reading old
  pub head : vec_head new ≡ 0
  pub room : room reading new ≡ room reading old + vec_head old

-- new is old with each bit of its visible words flipped, dead bits too
pub record Flips {T O : Type 0} {g : _} (reading : Reading T) (old new : BitVec T O g) : Type 0 where
  pub bits : vec_bits reading new ≡ map not (vec_bits reading old)
  pub words : memory reading (visible reading new) ≡ map not (memory reading (visible reading old))
  pub head : vec_head new ≡ vec_head old
  pub room : room reading new ≡ room reading old

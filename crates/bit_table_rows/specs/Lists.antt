-- The lists of bits that hold letters. No public clause cites this module.
use Rattle.std.specs.Prelude.{◌≡◌, ℕ, ◌≤◌, Bool, List, length}
use Rattle.bit_addressing_memory.specs.Memory.{Reading}
use Rattle.bit_containers_vector.specs.Vector.{vec_bits, vec_head, room}
use Rattle.bit_containers_vector.specs.declared.vector.BitVec.{BitVec}
use Rattle.bit_slice_views.specs.SpanLimits.{MAX_BITS}
use Rattle.bit_table_layout.specs.LetterSets.{letter_count}
use Rattle.bit_table_rows.specs.Walk.{EachHas}

-- its bits are these of the old ones, at the same head, and its memory is no less
pub record HasBits {T O : Type 0} {g : _} (reading : Reading T) (now : List Bool → List Bool) (old new : BitVec T O g)
    : Type 0 where
  pub bits : vec_bits reading new ≡ now (vec_bits reading old)
  pub head : vec_head new ≡ vec_head old
  pub room : room reading old ≤ room reading new

-- it has n bits, from the first bit of its first word on
pub record IsColumn {T O : Type 0} {g : _} (reading : Reading T) (n : ℕ) (list : BitVec T O g) : Type 0 where
  pub len : length (vec_bits reading list) ≡ n
  pub head : vec_head list ≡ 0

-- the lists of all letters, where there are n rows
pub record AreColumns {T O : Type 0} {g : _} (reading : Reading T) (n : ℕ) (lists : List (BitVec T O g)) : Type 0 where
  pub count : length lists ≡ letter_count
  pub each : EachHas (IsColumn reading n) lists
  pub short : n ≤ MAX_BITS

-- each list has memory for so many bits, and these are no fewer than the n that it has
pub record HaveSpace {T O : Type 0} {g : _} (reading : Reading T) (n space : ℕ) (lists : List (BitVec T O g))
    : Type 0 where
  pub within : n ≤ space
  pub each : EachHas (λ v. space ≤ room reading v) lists

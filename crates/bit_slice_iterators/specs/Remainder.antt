-- A part of a window that outlives what lent its pieces.
use Rattle.std.specs.Prelude.{ℕ, ◌≡◌, ◌+◌, Bool, List, length}
use Rattle.bit_addressing_memory.specs.Memory.{Reading, piece}
use Rattle.bit_slice_access.specs.Frame.{Frame}
use Rattle.bit_slice_access.specs.Part.{part_view, part_head, part_len, part_whole, part_around}
use Rattle.bit_slice_access.specs.declared.part.Part.{Part}

-- the part is the n bits from `from` on of a window with these bits and this frame: what it shows, where it lies, and
-- what the window is
pub record IsRest {V S O X : Type 0} {m b r c p : _} (reading : Reading S) (lender : V → X) (words : V → List S)
    (place : V → ℕ) (bits : V → List Bool) (whole : List Bool) (around : Frame X) (from n : ℕ)
    (part : Part V S O m b r c p) : Type 0 where
  pub bits_are : bits (part_view part) ≡ piece whole from n
  pub len : length (bits (part_view part)) ≡ n
  pub place_is : place (part_view part) ≡ part_head part + from
  pub whole_len : part_len part ≡ length whole
  pub whole_is : part_whole reading words part ≡ whole
  pub around_is : part_around reading lender words part ≡ around

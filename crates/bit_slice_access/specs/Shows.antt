-- What is lent of a window: a part of it, or both of its parts.
--
-- A part: `IsPartOf`. Both parts of a split: `SplitsAt`.
use Rattle.std.specs.Prelude.{ℕ, ◌≡◌, ◌+◌, ◌<◌, ◌≤◌, ◌^◌, Bool, List, length}
use Rattle.bit_addressing_memory.specs.Memory.{Reading, piece}
use Rattle.bit_addressing_span.specs.declared.span.TheConstants.{MAX_BITS}
use Rattle.bit_slice_views_mut.specs.Frame.{Frame}
use Rattle.bit_slice_views_mut.specs.declared.pair.Pair.{Pair}
use Rattle.bit_slice_views_mut.specs.Pair.{pair_len, pair_mid, pair_place, pair_view}
use Rattle.bit_slice_access.specs.Part.{part_view, part_head, part_len, part_whole, part_around}
use Rattle.bit_slice_access.specs.declared.part.Part.{Part}

-- the part is the n bits from `from` on of the window v: what it shows, where it lies, and what it is cut from
pub record IsPartOf {V S O X : Type 0} {m b r c p : _} (reading : Reading S) (lender : V → X) (words : V → List S)
    (place : V → ℕ) (bits : V → List Bool) (frame : V → Frame X) (v : V) (from n : ℕ) (part : Part V S O m b r c p)
    : Type 0 where
  pub bits_are : bits (part_view part) ≡ piece (bits v) from n
  pub len : length (bits (part_view part)) ≡ n
  pub place_is : place (part_view part) ≡ part_head part + from
  pub whole_len : part_len part ≡ length (bits v)
  pub whole : part_whole reading words part ≡ bits v
  pub around : part_around reading lender words part ≡ frame v

-- the pair splits the window v before its bit i
pub record SplitsAt {V S O : Type 0} (place : V → ℕ) (bits : V → List Bool) (v : V) (i : ℕ) (pair : Pair V S O)
    : Type 0 where
  pub value : pair_view pair ≡ v
  pub head : pair_place pair ≡ place v
  pub mid : pair_mid pair ≡ i
  pub len : pair_len pair ≡ length (bits v)
  pub short : pair_len pair ≤ MAX_BITS
  pub small : pair_place pair + pair_len pair < 2 ^ 63

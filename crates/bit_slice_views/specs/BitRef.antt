-- One bit that was read.
use Rattle.std.specs.Prelude.{Bool}
use Rattle.bit_slice_views.specs.declared.index.BitRef.{BitRef}

-- the bit
abbrev pub bit_value : BitRef → Bool
bit_value bit = bit.value

-- Where the bits of a rotated stretch stood.
use Rattle.std.specs.Prelude.{ℕ, ◌+◌, ◌-◌, if◌then◌else◌, nat_lt}
use Rattle.bit_slice_paths.specs.declared.rotation.End.{End}
use Rattle.bit_slice_paths.specs.declared.rotation.End.TheVariants.{First, Last}

-- the index at which the bit of index k stood, in a stretch of n bits, before it was turned by `by` towards its start
abbrev pub rotated_from : ℕ → ℕ → ℕ → ℕ
rotated_from n by k = if nat_lt (k + by) n then k + by else k + by - n

-- by how many places n bits are rotated towards their start that are rotated by `by` towards an end
abbrev pub to_start : End → ℕ → ℕ → ℕ
to_start First n by = by
to_start Last n by = n - by

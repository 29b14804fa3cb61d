-- Lists of bits combined, of different lengths.
use Rattle.std.specs.Prelude.{ℕ, ◌++◌, Bool, false, List, length, replicate, take}
use Rattle.std.specs.Simd.Lanes.{zip2}

-- the first n bits of a list, with zeros behind where it has fewer
abbrev pub fitted : ℕ → List Bool → List Bool
fitted n bits = take n (bits ++ replicate n false)

-- each bit of the first list and the bit at its index in the second, as `how` makes one of them: the second counts as
-- long as the first, with zeros behind where it has fewer
abbrev pub combined : (Bool → Bool → Bool) → List Bool → List Bool → List Bool
combined how bits others = zip2 how bits (fitted (length bits) others)

-- Bits that are set in turn.
use Rattle.std.specs.Prelude.{ℕ, zero, suc, ◌*◌, Bool, true, List, slice_set}

-- the bits, with the first one of each of the first m chunks of k set
abbrev pub marked : List Bool → ℕ → ℕ → List Bool
marked bits k zero = bits
marked bits k (suc m) = slice_set (marked bits k m) (m * k) true

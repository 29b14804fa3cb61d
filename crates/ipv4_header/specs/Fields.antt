-- Fields of a header in network order, end to end, and the bytes that hold them.
use Rattle.std.specs.Prelude.{ℕ, pos, ◌^◌, ◌<◌, Bool, List, [], ◌∷◌, ◌++◌, slice_index}
use Rattle.bit_slice.specs.Network.{network_bits}

-- the bits of fields, one behind another: of each how many bits it has, and its number
abbrev pub fields_bits : List (ℕ × ℕ) → List Bool
fields_bits [] = []
fields_bits (field ∷ rest) = network_bits field.0 (pos field.1) ++ fields_bits rest

-- each number is a byte
pub record AreBytes (xs : List ℕ) : Type 0 where
  pub fit : (k : ℕ) → slice_index xs k < 2 ^ 8

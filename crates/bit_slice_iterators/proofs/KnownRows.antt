-- Known rows of the definitions, computed: a wrong rule among them does not check.
use Rattle.std.proofs.Common.{◌≡◌, Bool, true, false, List, [], ◌∷◌, refl}
use Rattle.bit_slice_views.specs.Found.{is_bit}
use Rattle.bit_slice_iterators.specs.Indices.{indices}

-- the bits 0 1 0 0 1
abbrev bits : List Bool
bits = false ∷ true ∷ false ∷ false ∷ true ∷ []

-- the ones are at 1 and 4, the zeros at 0, 2 and 3
ones : indices (is_bit true) 0 bits ≡ 1 ∷ 4 ∷ []
ones = refl

zeros : indices (is_bit false) 0 bits ≡ 0 ∷ 2 ∷ 3 ∷ []
zeros = refl

-- no bits have none
ones_of_none : indices (is_bit true) 7 [] ≡ []
ones_of_none = refl

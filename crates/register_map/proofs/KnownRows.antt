-- The data sheet of the program and some numbers, worked by hand, so that a wrong definition does not check.
use Rattle.std.proofs.Common.{◌≡◌, true, false, [], ◌∷◌, map, refl}
use Rattle.register_map.specs.Registers.{number_of}
use Rattle.register_map.specs.Words.{upper_half_first}

-- the first index of a word is at the first position of its upper half, the last one below it
positions : map upper_half_first (0 ∷ 15 ∷ 16 ∷ 31 ∷ []) ≡ 16 ∷ 31 ∷ 0 ∷ 15 ∷ []
positions = refl

eleven : number_of (true ∷ true ∷ false ∷ true ∷ false ∷ []) ≡ 11
eleven = refl

none : number_of [] ≡ 0
none = refl

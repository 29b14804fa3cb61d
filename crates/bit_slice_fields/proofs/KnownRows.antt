-- Known rows of the definitions, computed: a wrong rule among them does not check.
use Rattle.std.proofs.Common.{◌≡◌, Bool, true, false, List, [], ◌∷◌, refl}
use Rattle.std.specs.Prelude.{pos, negsuc}
use Rattle.bit_slice_fields.specs.Number.{field_bits}
use Rattle.bit_slice_fields.specs.Whole.{low_digits, wrapped}

-- the sixteen bits from place 4 on of the bytes 0x12, 0x34, 0x56, counted from the lowest digit of each
abbrev from_lowest : List Bool
from_lowest =
    true ∷ false ∷ false ∷ false
    ∷ false ∷ false ∷ true ∷ false ∷ true ∷ true ∷ false ∷ false
    ∷ false ∷ true ∷ true ∷ false ∷ []

-- and counted from the highest
abbrev from_highest : List Bool
from_highest =
    false ∷ false ∷ true ∷ false
    ∷ false ∷ false ∷ true ∷ true ∷ false ∷ true ∷ false ∷ false
    ∷ false ∷ true ∷ false ∷ true ∷ []

lowest_le : field_bits true true 8 4 16 (pos 0x6341) ≡ from_lowest
lowest_le = refl

lowest_be : field_bits true false 8 4 16 (pos 0x1346) ≡ from_lowest
lowest_be = refl

highest_le : field_bits false true 8 4 16 (pos 0x5342) ≡ from_highest
highest_le = refl

highest_be : field_bits false false 8 4 16 (pos 0x2345) ≡ from_highest
highest_be = refl

-- three ones are 7, and with a sign -1
three_ones : field_bits true true 8 1 3 (pos 7) ≡ true ∷ true ∷ true ∷ []
three_ones = refl

three_ones_signed : field_bits true true 8 1 3 (negsuc 0) ≡ true ∷ true ∷ true ∷ []
three_ones_signed = refl

-- -5 in three digits
minus_five : low_digits 3 (negsuc 4) ≡ 3
minus_five = refl

-- five and -5 cut to three digits with a sign, and -5 without one
five_wrapped : wrapped true 3 (pos 5) ≡ negsuc 2
five_wrapped = refl

minus_five_wrapped : wrapped true 3 (negsuc 4) ≡ pos 3
minus_five_wrapped = refl

minus_five_unsigned : wrapped false 3 (negsuc 4) ≡ pos 3
minus_five_unsigned = refl

-- Known rows of the definitions, computed: a wrong rule among them does not check.
use Rattle.std.proofs.Common.{◌≡◌, Bool, true, false, List, [], ◌∷◌, Some, None, position, count_by, refl, arith}
use Rattle.std.specs.Cmp.Lexicographic.{slice_cmp}
use Rattle.std.specs.Ordering.{bool_cmp}
use Rattle.std.specs.declared.cmp.Ordering.TheVariants.{Less, Greater}
use Rattle.bit_addressing_memory.specs.Memory.{piece}
use Rattle.bit_slice_words.specs.Found.{is_bit, last_position}
use Rattle.bit_slice_words.specs.Holds.{Holds}

-- the bits 0 1 0 1 1 0 0
abbrev bits : List Bool
bits = false ∷ true ∷ false ∷ true ∷ true ∷ false ∷ false ∷ []

-- three of them are 1, and four 0
ones : count_by (is_bit true) bits ≡ 3
ones = refl

zeros : count_by (is_bit false) bits ≡ 4
zeros = refl

-- the first 1 is at 1, the first 0 at 0
first_one : position (is_bit true) bits ≡ Some 1
first_one = refl

first_zero : position (is_bit false) bits ≡ Some 0
first_zero = refl

-- the last 1 is at 4, the last 0 at 6
last_one : last_position (is_bit true) bits ≡ Some 4
unfolding last_position
last_one = refl

last_zero : last_position (is_bit false) bits ≡ Some 6
unfolding last_position
last_zero = refl

-- no bits have none, and ones no 0
last_of_none : last_position (is_bit true) [] ≡ None
unfolding last_position
last_of_none = refl

last_zero_of_ones : last_position (is_bit false) (true ∷ true ∷ []) ≡ None
unfolding last_position
last_zero_of_ones = refl

-- 0 1 1 stands in them, at 2, and no bits do
stands : Holds bits (false ∷ true ∷ true ∷ [])
unfolding piece
stands = (2, omega arith, refl)

no_bits_stand : Holds bits []
unfolding piece
no_bits_stand = (7, omega arith, refl)

-- 0 before 1, a proper prefix less
zero_before_one : slice_cmp bool_cmp (true ∷ false ∷ []) (true ∷ true ∷ []) ≡ Less
zero_before_one = refl

longer_is_greater : slice_cmp bool_cmp (true ∷ false ∷ []) (true ∷ []) ≡ Greater
longer_is_greater = refl

first_decides : slice_cmp bool_cmp (true ∷ []) (false ∷ true ∷ true ∷ []) ≡ Greater
first_decides = refl

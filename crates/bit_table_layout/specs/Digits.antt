-- Whole numbers and their binary digits.
use Rattle.std.specs.Prelude.{ℕ, ◌+◌, ◌*◌, ◌^◌, ◌==◌, ℤ, pos, unsigned_abs, Bool, List, [], ◌∷◌, if◌then◌else◌}
use Rattle.std.specs.Int.{int_div_euclid, int_rem_euclid}

-- the digit of v of weight 2 ^ j: v div 2 ^ j, rounded down, and of that the remainder by 2
abbrev pub digit : ℤ → ℕ → ℕ
digit v j = unsigned_abs (int_rem_euclid (int_div_euclid v (pos (2 ^ j))) (pos 2))

-- whether the digit of v of weight 2 ^ j is 1
abbrev pub has_digit : ℤ → ℕ → Bool
has_digit v j = digit v j == 1

-- the number whose digits the bits are, the first bit the lowest
abbrev pub binary : List Bool → ℕ
binary [] = 0
binary (b ∷ bs) = (if b then 1 else 0) + 2 * binary bs

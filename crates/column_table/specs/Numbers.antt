-- Whole numbers of 64 bits, as words spell them.
use Rattle.std.specs.Prelude.{ℕ, ◌^◌, ◌&&◌, ℤ, pos, neg_ℤ, int_le, int_lt, Bool, List, Option, Some, None}
use Rattle.std.specs.Prelude.{option_and_then, if◌then◌else◌}
use Rattle.bit_table.specs.Numerals.{whole_number_in}

-- whether 64 bits hold a number, with a sign or without one
abbrev pub is_of_64_bits : ℤ → Bool
is_of_64_bits n = int_le (neg_ℤ (pos (2 ^ 63))) n && int_lt n (pos (2 ^ 64))

-- a number, if 64 bits hold it
abbrev pub if_of_64_bits : ℤ → Option ℤ
if_of_64_bits n = if is_of_64_bits n then Some n else None

-- the number that a word spells, if 64 bits hold it
abbrev pub number_of_64_bits : List ℕ → Option ℤ
number_of_64_bits word = option_and_then if_of_64_bits (whole_number_in word)

-- Numbers in windows of bits by a digit rule: `number_held` reads what `field_bits` of the layouts writes.
use Rattle.std.specs.Prelude.{ℕ, ℤ, Bool, List, [], if◌then◌else◌}
use Rattle.bit_addressing_memory.specs.Memory.{touched}
use Rattle.bit_table_layout.specs.declared.layout.Rule.{Rule}
use Rattle.bit_table_layout.specs.declared.layout.Rule.TheVariants.{Low, High}
use Rattle.bit_table_layout.specs.Digits.{binary}
use Rattle.bit_table_layout.specs.Fields.{takes}
use Rattle.bit_table_layout.specs.Readings.{lowest_first, number_from_digits}

-- the number that n bits hold by a digit rule; where it has a sign, the highest digit is the sign's
abbrev pub number_held : Rule → Bool → ℕ → List Bool → ℤ
number_held rule signed n bits = number_from_digits signed n (binary (lowest_first rule bits))

-- whether v is a number of n digits: below 2 ^ n and not below 0, or, where one of them is the sign's, from
-- - 2 ^ (n - 1) to below 2 ^ (n - 1). So many bits hold each such number, and no other
abbrev pub is_held : Bool → ℕ → ℤ → Bool
is_held signed n v = takes (record { name = []; width = n; signed = signed }) v

-- the most word steps that n bits from a place on take, at words of b bits: one for each word that they touch where
-- the road goes by words, else one a bit
abbrev pub most_for : Bool → ℕ → ℕ → ℕ → ℕ
most_for by_words b place n = if by_words then touched b place n else n

-- what a rule has of two truth values, that for `low` and that for `high`
abbrev pub by_rule : Rule → Bool → Bool → Bool
by_rule Low low high = low
by_rule High low high = high

-- How the bits of a word are counted by hand.
use Rattle.std.specs.Prelude.{ℕ, ◌+◌, ◌*◌, ◌-◌, ◌%◌}
use Rattle.bit_addressing_sample_orders.specs.declared.count.Count.{Count}
use Rattle.bit_addressing_sample_orders.specs.declared.count.Count.TheVariants.{Lowest, Highest, Fifths}

-- the digit of an index in a word of so many digits
abbrev pub counted : Count → ℕ → ℕ → ℕ
counted Lowest _ index = index
counted Highest bits index = bits - 1 - index
counted Fifths bits index = (5 * index + 3) % bits

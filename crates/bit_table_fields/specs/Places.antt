-- Where a digit lies in a window. No public clause cites this module.
use Rattle.std.specs.Prelude.{ℕ, ◌-◌}
use Rattle.bit_table_layout.specs.declared.layout.Rule.{Rule}
use Rattle.bit_table_layout.specs.declared.layout.Rule.TheVariants.{Low, High}

-- the digit that is bit i of n bits, and the bit that is digit i of them
abbrev pub digit_place : Rule → ℕ → ℕ → ℕ
digit_place Low n i = i
digit_place High n i = n - 1 - i

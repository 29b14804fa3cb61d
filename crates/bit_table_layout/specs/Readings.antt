-- Numbers and rows as bits give them back.
use Rattle.std.specs.Prelude.{ℕ, zero, suc, ◌-◌, ◌^◌, ◌&&◌, nat_le, ℤ, pos, ◌-ℤ◌, Bool, List, [], ◌∷◌, take, drop}
use Rattle.std.specs.Prelude.{reverse, if◌then◌else◌}
use Rattle.bit_table_layout.specs.declared.layout.Rule.{Rule}
use Rattle.bit_table_layout.specs.declared.layout.Rule.TheVariants.{Low, High}
use Rattle.bit_table_layout.specs.Digits.{binary}
use Rattle.bit_table_layout.specs.Fields.{FieldShape}
use Rattle.bit_table_layout.specs.Layouts.{LayoutShape, row_width}
use Rattle.bit_table_layout.specs.Rows.{Row, new_row}

-- a field's bits, the lowest first
abbrev pub lowest_first : Rule → List Bool → List Bool
lowest_first Low bits = bits
lowest_first High bits = reverse bits

-- the number of a field of n bits whose digits below 2 ^ n spell u
abbrev pub number_from_digits : Bool → ℕ → ℕ → ℤ
number_from_digits signed n u = if signed && nat_le (2 ^ (n - 1)) u then pos u -ℤ pos (2 ^ n) else pos u

-- the number that a field's bits hold
abbrev pub number_from : Rule → FieldShape → List Bool → ℤ
number_from rule f bits = number_from_digits f.signed f.width (binary (lowest_first rule bits))

-- the numbers that the bits of fields hold, in order
abbrev pub numbers_from : Rule → List FieldShape → List Bool → List ℤ
numbers_from rule [] bits = []
numbers_from rule (f ∷ fs) bits = number_from rule f (take f.width bits) ∷ numbers_from rule fs (drop f.width bits)

-- the first count rows that bits hold, none of which bears a letter
abbrev pub rows_from : LayoutShape → ℕ → List Bool → List Row
rows_from l zero bits = []
rows_from l (suc count) bits =
    new_row (numbers_from l.rule l.fields (take (row_width l.fields) bits))
    ∷ rows_from l count (drop (row_width l.fields) bits)

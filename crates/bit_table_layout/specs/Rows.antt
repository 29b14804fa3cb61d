-- Rows, and their bits.
use Rattle.std.specs.Prelude.{ℕ, ◌&&◌, true, false, Bool, ℤ, List, [], ◌∷◌, ◌++◌, map, reverse}
use Rattle.std.specs.List.{range_with_len, flat_map, list_all}
use Rattle.std.specs.Ordering.{nat_cmp}
use Rattle.std.specs.FinSet as set
use Rattle.bit_table_layout.specs.declared.layout.Rule.{Rule}
use Rattle.bit_table_layout.specs.declared.layout.Rule.TheVariants.{Low, High}
use Rattle.bit_table_layout.specs.Digits.{has_digit}
use Rattle.bit_table_layout.specs.Fields.{FieldShape, takes}
use Rattle.bit_table_layout.specs.Layouts.{LayoutShape}

-- a row: its numbers, one a field, and the letters that it bears, each as its place in the alphabet
pub record Row : Type 0 where
  pub numbers : List ℤ
  pub letters : set.FinSet nat_cmp

-- a new row of these numbers, which bears no letter
abbrev pub new_row : List ℤ → Row
new_row numbers = record { numbers = numbers; letters = set.empty }

-- whether there is one number a field, and each field takes its number
abbrev pub take_all : List FieldShape → List ℤ → Bool
take_all [] [] = true
take_all [] (v ∷ vs) = false
take_all (f ∷ fs) [] = false
take_all (f ∷ fs) (v ∷ vs) = takes f v && take_all fs vs

-- whether a row is one of the layout
abbrev pub is_row : LayoutShape → Row → Bool
is_row l row = take_all l.fields row.numbers

-- whether each of the rows is one of the layout
abbrev pub are_rows : LayoutShape → List Row → Bool
are_rows l rows = list_all (is_row l) rows

-- the digits of a field of n bits in the order of its bits: 0 to n - 1 under `low`, n - 1 to 0 under `high`
abbrev pub places : Rule → ℕ → List ℕ
places Low n = range_with_len 0 n
places High n = reverse (range_with_len 0 n)

-- the bits of a field of n bits that has the number v
abbrev pub field_bits : Rule → ℕ → ℤ → List Bool
field_bits rule n v = map (has_digit v) (places rule n)

-- the bits of fields that have these numbers, in order
abbrev pub numbers_bits : Rule → List FieldShape → List ℤ → List Bool
numbers_bits rule [] vs = []
numbers_bits rule (f ∷ fs) [] = []
numbers_bits rule (f ∷ fs) (v ∷ vs) = field_bits rule f.width v ++ numbers_bits rule fs vs

-- the bits of a row
abbrev pub row_bits : LayoutShape → Row → List Bool
row_bits l row = numbers_bits l.rule l.fields row.numbers

-- the bits of all rows, end to end
abbrev pub table_bits : LayoutShape → List Row → List Bool
table_bits l rows = flat_map (row_bits l) rows

-- the numbers of the rows
abbrev pub all_numbers : List Row → List (List ℤ)
all_numbers rows = map (λ row. row.numbers) rows

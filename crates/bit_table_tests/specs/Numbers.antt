-- A number of a row made another one.
use Rattle.std.specs.Prelude.{ℕ, ℤ, ◌+◌, List, ◌++◌, map, take, drop, slice_range, slice_set}
use Rattle.bit_table_layout.specs.Rows.{Row}

-- the row with v as its number f
abbrev pub with_number : ℕ → ℤ → Row → Row
with_number f v row = record row { numbers = slice_set row.numbers f v }

-- the rows with v as number f of row p
abbrev pub number_set : List Row → ℕ → ℕ → ℤ → List Row
number_set rows p f v = take p rows ++ (map (with_number f v) (slice_range rows p (p + 1)) ++ drop (p + 1) rows)

-- Which rows bear a letter, and which a test passes.
use Rattle.std.specs.Prelude.{ℕ, ◌+◌, ℤ, pos, int_lt, Bool, List, [], ◌∷◌, map, get_or, Option, Some, None}
use Rattle.std.specs.Prelude.{if◌then◌else◌}
use Rattle.std.specs.Ordering.{int_eq}
use Rattle.bit_table_layout.specs.Rows.{Row}
use Rattle.bit_table_layout.specs.LetterSets.{bears, with_letter}
use Rattle.bit_table_commands.specs.declared.test.Test.{Test}
use Rattle.bit_table_commands.specs.declared.test.Test.TheVariants.{Below, Equal, Above}

-- whether a row bears letter x
abbrev pub row_bears : ℕ → Row → Bool
row_bears x row = bears x row.letters

-- rows that bear letter x exactly where decide says so of the row; their other letters and their numbers stay
abbrev pub marked : ℕ → (Row → Bool) → List Row → List Row
marked x decide rows = map (λ (row : Row). record row { letters = with_letter x (decide row) row.letters }) rows

-- whether number n passes a test against v: it is less, the same or greater
abbrev pub passes : Test → ℤ → ℤ → Bool
passes Below n v = int_lt n v
passes Equal n v = int_eq n v
passes Above n v = int_lt v n

-- the number of a row at the place of a field, or 0 where there is none
abbrev pub number_in_field : Option ℕ → Row → ℤ
number_in_field None row = pos 0
number_in_field (Some f) row = get_or row.numbers f (pos 0)

-- the numbers, ascending, of the rows that pass a test, where the first row has the number from
abbrev pub rows_passing : (Row → Bool) → ℕ → List Row → List ℕ
rows_passing test from [] = []
rows_passing test from (row ∷ rows) =
    if test row then from ∷ rows_passing test (from + 1) rows else rows_passing test (from + 1) rows

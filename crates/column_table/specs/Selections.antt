-- Tables whose rows bear the letter of those that are selected.
use Rattle.std.specs.Prelude.{◌≡◌, ℕ, ◌<◌, ◌&&◌, Bool, false, List, length, map}
use Rattle.std.specs.List.{All}
use Rattle.bit_table.specs.Rows.{Row, all_numbers}
use Rattle.bit_table.specs.Tables.{TableShape}
use Rattle.bit_table.specs.Marks.{row_bears}
use Rattle.column_table.specs.declared.condition.Condition.{Condition}
use Rattle.column_table.specs.Conditions.{meets, meets_one}

-- the letter of the rows that are selected, by its place in the alphabet
abbrev pub letter : ℕ
letter = 0

-- whether a row is selected
abbrev pub is_selected : Row → Bool
is_selected row = row_bears letter row

-- each condition is on a field of the table
abbrev pub AreOn : TableShape → List Condition → Type 0
AreOn t conditions = All (λ condition. condition.field < length t.layout.fields) conditions

-- two tables of one layout have the same numbers, row by row
pub record SameNumbers (old new : TableShape) : Type 0 where
  pub layout : new.layout ≡ old.layout
  pub numbers : all_numbers new.rows ≡ all_numbers old.rows

-- exactly the rows whose numbers meet all conditions are selected
abbrev pub AreSelected : List Condition → TableShape → Type 0
AreSelected conditions t = map is_selected t.rows ≡ map (meets conditions) (all_numbers t.rows)

-- the rows that were selected and meet one condition more are selected now
abbrev pub IsNarrowed : Condition → TableShape → TableShape → Type 0
IsNarrowed condition old new =
    map is_selected new.rows ≡ map (λ (row : Row). is_selected row && meets_one condition row.numbers) old.rows

-- no row is selected
abbrev pub NoneSelected : TableShape → TableShape → Type 0
NoneSelected old new = map is_selected new.rows ≡ map (λ (row : Row). false) old.rows

-- Conditions on the numbers of a row.
use Rattle.std.specs.Prelude.{ℕ, ◌+◌, ℤ, pos, Bool, List, [], ◌∷◌, get_or, if◌then◌else◌}
use Rattle.std.specs.List.{list_all}
use Rattle.bit_table.specs.Marks.{passes}
use Rattle.column_table.specs.declared.condition.Condition.{Condition}

-- whether a row of these numbers meets a condition
abbrev pub meets_one : Condition → List ℤ → Bool
meets_one condition numbers = passes condition.test (get_or numbers condition.field (pos 0)) condition.value

-- whether a row of these numbers meets all conditions
abbrev pub meets : List Condition → List ℤ → Bool
meets conditions numbers = list_all (λ condition. meets_one condition numbers) conditions

-- the places, ascending, of the rows that meet all conditions, where the first row has the place from
abbrev pub places_meeting : List Condition → ℕ → List (List ℤ) → List ℕ
places_meeting conditions from [] = []
places_meeting conditions from (numbers ∷ rows) =
    if meets conditions numbers then from ∷ places_meeting conditions (from + 1) rows
    else places_meeting conditions (from + 1) rows

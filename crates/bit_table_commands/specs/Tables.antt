-- Tables and states.
use Rattle.std.specs.Prelude.{◌≡◌, ℕ, ◌*◌, ◌≤◌, true, Bool, List, [], length, Option, Some, None, option_map}
use Rattle.std.specs.Prelude.{is_some, IfSome}
use Rattle.bit_table_layout.specs.declared.layout.TheConstants.{MAX_BITS}
use Rattle.bit_table_layout.specs.Layouts.{LayoutShape, is_layout, row_width}
use Rattle.bit_table_layout.specs.Rows.{Row, are_rows}

-- a table as contracts see it: its layout, its rows, and the rows that were kept, if any
pub record TableShape : Type 0 where
  pub layout : LayoutShape
  pub rows : List Row
  pub kept : Option (List Row)

-- the state of a script: a layout or none, the rows, and the rows that were kept, if any
pub record State : Type 0 where
  pub layout : Option LayoutShape
  pub rows : List Row
  pub kept : Option (List Row)

-- a new table of a layout
abbrev pub new_table : LayoutShape → TableShape
new_table l = record { layout = l; rows = []; kept = None }

-- the state in which a script begins: no layout, no rows and nothing kept
abbrev pub start : State
start = record { layout = None; rows = []; kept = None }

-- the table of a state, where it has a layout
abbrev pub table_in : State → Option TableShape
table_in s = option_map (λ l. record { layout = l; rows = s.rows; kept = s.kept }) s.layout

-- the state that a table is
abbrev pub state_with : TableShape → State
state_with t = record { layout = Some t.layout; rows = t.rows; kept = t.kept }

-- rows of a layout, which have at most as many bits as a table may have
pub record AreHeld (l : LayoutShape) (rows : List Row) : Type 0 where
  pub lawful : are_rows l rows ≡ true
  pub room : length rows * row_width l.fields ≤ MAX_BITS

-- a table's layout is one, and its rows and those that are kept, if any, are held by it
pub record IsTable (t : TableShape) : Type 0 where
  pub layout : is_layout t.layout ≡ true
  pub rows : AreHeld t.layout t.rows
  pub kept : IfSome t.kept (AreHeld t.layout)

-- t is a table of this layout with n rows, and rows are kept or not
pub record IsTableOf (l : LayoutShape) (n : ℕ) (has_kept : Bool) (t : TableShape) : Type 0 where
  pub lawful : IsTable t
  pub layout : t.layout ≡ l
  pub count : length t.rows ≡ n
  pub kept : is_some t.kept ≡ has_kept

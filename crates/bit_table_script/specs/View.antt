-- A table as contracts see it.
use Rattle.std.specs.Prelude.{◌≡◌, ℕ, ◌*◌, ◌≤◌, Bool, true, false, List, length, Option, option_map}
use Rattle.bit_table_layout.specs.declared.layout.TheConstants.{MAX_BITS}
use Rattle.bit_table_layout.specs.Layouts.{LayoutShape, row_width}
use Rattle.bit_table_layout.specs.Readings.{rows_from}
use Rattle.bit_table_layout.specs.Rows.{Row}
use Rattle.bit_table_layout.specs.LetterSets.{LetterSet}
use Rattle.bit_table_commands.specs.declared.command.Command.{Command}
use Rattle.bit_table_commands.specs.declared.command.Command.TheVariants.{Insert, Get, Dup, Image, Load, Keep}
use Rattle.bit_table_commands.specs.declared.command.Command.TheVariants.{List as Listing}
use Rattle.bit_table_commands.specs.Tables.{TableShape}
use Rattle.bit_table_script.specs.Lettered.{lettered}

-- what a script sees of it: its layout, its rows and what is kept; the word writes of the moves of the last edit that
-- moved rows: of the list of the rows first, and then of those of the letters `a` to `z`; and how many rows more surely
-- fit without memory
pub record TableView : Type 0 where
  pub shape : TableShape
  pub moved : List ℕ
  pub room : ℕ

-- rows as they are stored: how many there are, their bits, and the letters of each
pub record StoredRows : Type 0 where
  pub rows : ℕ
  pub bits : List Bool
  pub letters : List LetterSet

-- they are so many rows of the layout, as a table may have
pub record AreStored (l : LayoutShape) (s : StoredRows) : Type 0 where
  pub fits : length s.bits ≡ s.rows * row_width l.fields
  pub room : s.rows * row_width l.fields ≤ MAX_BITS
  pub marked : length s.letters ≡ s.rows

-- n rows of so many bits and their letters have memory for `space` rows: for so many bits, and for the letters of so
-- many rows
pub record HaveSpace (n space width most_bits most_rows : ℕ) : Type 0 where
  pub within : n ≤ space
  pub bits : space * width ≤ most_bits
  pub letters : space ≤ most_rows

-- stored rows as a script sees them
abbrev pub rows_of : LayoutShape → StoredRows → List Row
rows_of l s = lettered (rows_from l s.rows s.bits) s.letters

-- the table that stores these rows, and keeps these, if any
abbrev pub table_from : LayoutShape → StoredRows → Option StoredRows → TableShape
table_from l s kept = record { layout = l; rows = rows_of l s; kept = option_map (rows_of l) kept }

-- whether a command that no cause refuses may still want memory
abbrev pub may_want_memory : Command → Bool
may_want_memory (Insert p vs) = true
may_want_memory (Get p) = true
may_want_memory (Dup p q) = true
may_want_memory Image = true
may_want_memory (Load n bytes) = true
may_want_memory (Listing x) = true
may_want_memory Keep = true
may_want_memory c = false

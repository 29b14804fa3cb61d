-- What a script sees of a table, or of none.
use Rattle.std.specs.Prelude.{Option, option_map}
use Rattle.bit_table_commands.specs.Tables.{TableShape}
use Rattle.bit_table_script.specs.View.{TableView}

abbrev pub shape_in : Option TableView → Option TableShape
shape_in table = option_map (λ t. t.shape) table

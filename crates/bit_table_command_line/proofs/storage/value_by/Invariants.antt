use Rattle.std.proofs.Common.{◌≡◌, length}
use Rattle.bit_table_command_line.specs.Storages.{named, rows_of_names}
use Rattle.bit_table_command_line.proofs.storage.value_by.Given as goal

abbrev pub invariant-loop-rows : goal.invariant-loop-rows
invariant-loop-rows g l = named (rows_of_names l.rows) l.other l.name ≡ named (rows_of_names l.fn.rows) l.other l.name

abbrev pub decreases-loop-rows : goal.decreases-loop-rows
decreases-loop-rows g l = length l.rows

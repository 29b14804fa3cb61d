use Rattle.std.proofs.Common.{◌≡◌, ◌++◌, map, length}
use Rattle.clap.specs.Walk.{texts}
use Rattle.bit_table_command_line.specs.Storages.{rows_of_names}
use Rattle.bit_table_command_line.proofs.storage.names.Given as goal

abbrev pub invariant-loop-rows : goal.invariant-loop-rows
invariant-loop-rows g l =
    texts l.names.items ++ map (λ row. row.0) (rows_of_names l.rows) ≡ map (λ row. row.0) (rows_of_names l.fn.rows)

abbrev pub decreases-loop-rows : goal.decreases-loop-rows
decreases-loop-rows g l = length l.rows

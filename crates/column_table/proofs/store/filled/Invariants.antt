use Rattle.std.proofs.Common.{map}
use Rattle.column_table.specs.Packed.{HasRows}
use Rattle.column_table.proofs.store.filled.Given as goal

-- the rows so far are packed
abbrev pub invariant-loop-row : goal.invariant-loop-row
invariant-loop-row g l = HasRows l.fn.layout (map (λ row. row.items) l.yielded) l.table.shape

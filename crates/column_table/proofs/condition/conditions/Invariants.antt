use Rattle.std.proofs.Common.{◌<◌, length}
use Rattle.std.specs.List.{All}
use Rattle.column_table.proofs.condition.conditions.Given as goal

-- each condition so far is on a field
abbrev pub invariant-loop-index : goal.invariant-loop-index
invariant-loop-index l = All (λ condition. condition.field < length l.layout.fields) l.conditions.items

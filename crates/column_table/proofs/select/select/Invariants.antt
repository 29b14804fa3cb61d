use Rattle.std.proofs.Common.{take}
use Rattle.column_table.specs.Selections.{AreSelected, SameNumbers}
use Rattle.column_table.proofs.select.select.Given as goal

-- the rows that meet the conditions so far are selected
abbrev pub invariant-loop-condition : goal.invariant-loop-condition
invariant-loop-condition g l = record {
  selected : AreSelected (take l.condition-index l.conditions) l.table.shape;
  same : SameNumbers l.fn.table.shape l.table.shape;
}

use Rattle.column_table.specs.Widths.{IsRange}
use Rattle.column_table.proofs.width.range_with_0.Given as goal

abbrev pub invariant-loop-number : goal.invariant-loop-number
invariant-loop-number l = IsRange l.number-index l.numbers l.least l.greatest

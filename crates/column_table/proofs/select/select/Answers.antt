use Rattle.column_table.proofs.SelectLemmas.{selected_more, same_then}
use Rattle.column_table.proofs.select.select.Goals as goal

pub loop-condition-preserved : goal.loop-condition-preserved
loop-condition-preserved g c =
    let before = c.loop-condition.invariant in
    record {
      selected = selected_more c.args.conditions.now c.loop-condition.condition-index _ c.loop-condition.table.shape
          c.narrow.new.table.shape c.loop-condition-test.true before.selected c.narrow.ensures.narrowed
          c.narrow.ensures.same;
      same = same_then c.args.table.now.shape c.loop-condition.table.shape c.narrow.new.table.shape before.same
          c.narrow.ensures.same;
    }

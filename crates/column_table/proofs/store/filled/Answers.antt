use Rattle.std.proofs.Common.{map, arith}
use Rattle.std.proofs.lemmas.List.{map-append}
use Rattle.column_table.proofs.PackedLemmas.{few_rows, none_packed, one_packed}
use Rattle.column_table.proofs.store.filled.Goals as goal

pub reserve-requires : goal.reserve-requires
reserve-requires g c = (
  omega arith,
  few_rows c.new-table.result.shape c.args.layout c.len-2.result c.row_bits-most.result c.new-table.ensures.shape
      c.row_bits-most.ensures.bits (omega arith),
)

pub loop-row-init : goal.loop-row-init
loop-row-init g c =
    none_packed c.args.layout c.new-table.result.shape c.reserve.new.self.shape c.reserve.ensures.shape
    c.new-table.ensures.shape

pub loop-row-preserved : goal.loop-row-preserved
loop-row-preserved g c =
    let all = one_packed c.args.layout (map (λ row. row.items) c.loop-row.yielded) c.in-Some.row.items
    c.loop-row.table.shape c.push.new.table.shape c.loop-row.invariant c.in_ok-push.ensures in
    rw map-append all

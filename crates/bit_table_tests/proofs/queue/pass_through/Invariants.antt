use Rattle.std.proofs.Common.{◌≡◌, ◌≤◌, length}
use Rattle.bit_table_tests.proofs.queue.pass_through.Given as goal

abbrev pub invariant-loop-turn : goal.invariant-loop-turn
invariant-loop-turn g l = record {
  layout : l.table.shape.layout ≡ l.fn.table.shape.layout;
  rows : length l.table.shape.rows ≡ length l.fn.table.shape.rows;
  room : l.fn.table.room ≤ l.table.room;
}

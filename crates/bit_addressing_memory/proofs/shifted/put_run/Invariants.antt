use Rattle.bit_addressing_memory.proofs.Common.{◌≤◌, read_by}
use Rattle.bit_addressing_memory.specs.MoveSteps.{PutsWords}
use Rattle.bit_addressing_memory.proofs.shifted.put_run.Given as goal

abbrev pub invariant-up : goal.invariant-up
invariant-up g l =
    PutsWords (read_by g.R.BitRegister g.O.Positions.position) 3 l.fn.sweep l.sweep l.task.source l.task.target
    l.task.len l.low l.k

abbrev pub invariant-down : goal.invariant-down
invariant-down g l = record {
  low : l.low ≤ l.k;
  put :
      PutsWords (read_by g.R.BitRegister g.O.Positions.position) 3 l.fn.sweep l.sweep l.task.source l.task.target
      l.task.len l.k l.high;
}

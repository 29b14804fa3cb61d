use Rattle.bit_addressing_memory.proofs.Common.{◌+◌, ◌-◌, read_by}
use Rattle.bit_addressing_memory.specs.MoveSteps.{PutsWords}
use Rattle.bit_addressing_memory.specs.Ways.{by_way}
use Rattle.bit_addressing_memory.proofs.moves.put_gathered.Given as goal

abbrev pub invariant-loop-m : goal.invariant-loop-m
invariant-loop-m g l =
    PutsWords (read_by g.R.BitRegister g.O.Positions.position) (g.R.BitRegister.BITS + 1) l.fn.sweep l.sweep
    l.task.source l.task.target l.task.len (by_way l.way l.first (l.last + 1 - (l.m - l.first))) (by_way l.way l.m (l.last + 1))

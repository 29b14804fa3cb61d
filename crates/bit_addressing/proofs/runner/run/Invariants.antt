use Rattle.std.proofs.Common.{take}
use Rattle.bit_addressing_memory.specs.Memory.{read_by}
use Rattle.bit_addressing.specs.Runs.{Runs}
use Rattle.bit_addressing.proofs.runner.run.Given as goal

abbrev pub invariant-loop-k : goal.invariant-loop-k
invariant-loop-k g l =
    let b = g.R.BitRegister.BITS in
    let reading = read_by g.R.BitRegister g.O.Positions.position in
    Runs reading l.fn.memory l.memory l.spans (take l.k l.commands) (take l.k l.replies)

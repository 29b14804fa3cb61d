use Rattle.std.proofs.Common.{ℕ, ◌≡◌, ◌<◌}
use Rattle.bit_addressing_memory.specs.Straight.{straight}
use Rattle.bit_addressing_memory.proofs.direction.goes.Given as goal

-- the indices so far have the positions of that direction
abbrev pub invariant-loop-index : goal.invariant-loop-index
invariant-loop-index g l =
    (i : ℕ) → i < l.index → g.P.Positions.position i ≡ straight g.R.BitRegister.BITS l.direction i

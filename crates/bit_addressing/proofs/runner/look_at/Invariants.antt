use Rattle.std.proofs.Common.{ℕ, ◌<◌}
use Rattle.bit_addressing.specs.Runs.{span_at}
use Rattle.bit_addressing.proofs.runner.look_at.Given as goal

abbrev pub invariant-loop-span : goal.invariant-loop-span
invariant-loop-span g l = (s : ℕ) → s < l.span-index → (span_at l.spans s).head < g.R.BitRegister.BITS

use Rattle.std.proofs.Common.{ℕ, ◌<◌}
use Rattle.bit_addressing_span.specs.Span.{FitsIn}
use Rattle.bit_addressing.specs.Runs.{span_at}
use Rattle.bit_addressing.proofs.runner.all_fit.Given as goal

abbrev pub invariant-loop-k : goal.invariant-loop-k
invariant-loop-k g l =
    (s : ℕ) → s < l.k
    → FitsIn g.R.BitRegister.BITS (span_at l.spans s) l.words × ((span_at l.spans s).head < g.R.BitRegister.BITS)

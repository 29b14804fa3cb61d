use Rattle.std.proofs.Common.{ℕ, ◌<◌}
use Rattle.bit_addressing.specs.Runs.{IsInside, IsOutside, span_at}
use Rattle.bit_addressing.proofs.runner.disjoint.Given as goal

abbrev pub invariant-loop-later : goal.invariant-loop-later
invariant-loop-later g l =
    let b = g.R.BitRegister.BITS in
    record {
      apart : (s t p : ℕ) → s < t → t < l.later → IsInside b (span_at l.spans s) p → IsOutside b (span_at l.spans t) p;
      heads : (s : ℕ) → s < l.later → (span_at l.spans s).head < b;
    }

abbrev pub invariant-loop-earlier : goal.invariant-loop-earlier
invariant-loop-earlier g l =
    let b = g.R.BitRegister.BITS in
    (s p : ℕ) → s < l.earlier → IsInside b (span_at l.spans s) p → IsOutside b (span_at l.spans l.later) p

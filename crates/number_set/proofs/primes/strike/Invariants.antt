use Rattle.std.proofs.Common.{◌<◌, ◌≤◌, ◌-◌}
use Rattle.number_set.specs.Primes.{Strikes}
use Rattle.number_set.proofs.primes.strike.Given as goal

abbrev pub invariant-loop-other : goal.invariant-loop-other
invariant-loop-other l =
    Strikes l.fn.left l.left l.factor (λ b. b < l.other) × (l.factor ≤ l.other) × (l.other ≤ l.end)

abbrev pub decreases-loop-other : goal.decreases-loop-other
decreases-loop-other l = l.end - l.other

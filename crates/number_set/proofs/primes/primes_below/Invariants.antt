use Rattle.std.proofs.Common.{◌≤◌, ◌-◌, ◌^◌}
use Rattle.number_set.proofs.SieveLemmas.{Sieved}
use Rattle.number_set.proofs.primes.primes_below.Given as goal

abbrev pub invariant-loop-factor : goal.invariant-loop-factor
invariant-loop-factor l = Sieved l.left l.factor l.end × (2 ≤ l.factor) × (l.factor ≤ 2 ^ 16)

abbrev pub decreases-loop-factor : goal.decreases-loop-factor
decreases-loop-factor l = 2 ^ 16 - l.factor

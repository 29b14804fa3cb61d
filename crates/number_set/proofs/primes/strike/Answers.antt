use Rattle.std.proofs.Common.{◌≤◌, ◌*◌, arith}
use Rattle.std.proofs.Math.Nat.{mul-le-mul_right}
use Rattle.number_set.proofs.SieveLemmas.{strikes_more, strikes_all}
use Rattle.number_set.proofs.primes.strike.Goals as goal

pub loop-other-preserved : goal.loop-other-preserved
loop-other-preserved c =
    let old = c.args.left.now in
    let other = c.loop-other.other in
    let twice : 2 * other ≤ c.args.factor * other = mul-le-mul_right other c.requires.least in
    let far = strikes_more old c.loop-other.left c.args.factor other c.loop-other.invariant.1 c.loop-other.invariant.0 in
    (rw c.remove.ensures.set far, omega arith, omega (arith, twice, c.loop-other-test.true))

pub returns : goal.returns
returns c =
    strikes_all c.args.left.now c.loop-other.left c.args.factor c.loop-other.other c.args.end
    (omega (arith, c.loop-other-test.false)) c.loop-other.invariant.0

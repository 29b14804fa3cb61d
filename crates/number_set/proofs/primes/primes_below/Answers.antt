use Rattle.std.proofs.Common.{◌+◌, ◌<◌, ◌≤◌, ◌*◌, ◌^◌, arith, sym, ◌∙◌}
use Rattle.std.proofs.Math.Nat.{mul-le-mul_right}
use Rattle.number_set.proofs.SieveLemmas.{Sieved, sieve_begun, sieve_struck, sieve_passed, sieve_done, below_root}
use Rattle.number_set.proofs.primes.primes_below.Goals as goal
use Rattle.number_set.proofs.primes.primes_below.Goals.{then-contains, else-contains}

pub loop-factor-init : goal.loop-factor-init
loop-factor-init c =
    let begun = sieve_begun c.in_ok-left.left c.args.end c.in_ok-left.ensures in
    (rw (c.remove-2.ensures.set, c.remove.ensures.set) begun, omega arith, omega arith)

pub loop-factor-preserved : goal.loop-factor-preserved
loop-factor-preserved c =
    let factor = c.loop-factor.factor in
    let end = c.args.end in
    let twice : 2 * factor ≤ factor * factor = mul-le-mul_right factor c.loop-factor.invariant.1 in
    let low : factor < 2 ^ 16 = below_root factor (2 ^ 16) (omega (arith, c.loop-factor-test.true)) in
    let there : Sieved c.if-contains.left (factor + 1) end = elim c.if-contains.branch [
      | then-contains w ↦
          rw w.left-is (sieve_struck c.loop-factor.left w.strike.new.left factor end c.loop-factor.invariant.1
          c.loop-factor.invariant.0 w.strike.ensures)
      | else-contains w ↦
          rw w.left-is (sieve_passed c.loop-factor.left factor end c.loop-factor.invariant.1
          (omega (arith, twice, c.loop-factor-test.true)) c.loop-factor.invariant.0
          (sym c.contains.ensures ∙ w.if-contains.false))
    ] in
    (there, omega arith, omega arith)

pub returns : goal.returns
returns c =
    sieve_done c.loop-factor.left c.loop-factor.factor c.args.end
    (omega (arith, c.loop-factor-test.false)) c.loop-factor.invariant.0

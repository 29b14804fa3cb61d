use Rattle.std.proofs.Common.{◌+◌, ◌&&◌, ap, ◌∙◌}
use Rattle.std.proofs.Math.Bool.{and_comm}
use Rattle.std.specs.Cmp.{nat_cmp_total}
use Rattle.std.specs.FinSet as set
use Rattle.number_set.proofs.primes.twins.Goals as goal

pub returns : goal.returns
returns c n =
    let numbers = c.args.numbers.now in
    let moved = c.shift_down.new.self in
    ap (λ s. set.contains s n) c.intersect_with.ensures
    ∙ set.contains-intersection nat_cmp_total moved numbers n
    ∙ ap (λ b. b && set.contains numbers n)
    (c.shift_down.ensures n ∙ ap (λ s. set.contains s (n + 2)) c.in_ok-lesser.ensures.cases)
    ∙ and_comm (set.contains numbers (n + 2)) (set.contains numbers n)

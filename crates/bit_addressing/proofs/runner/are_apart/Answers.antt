use Rattle.std.proofs.Common.{inl, inr, arith}
use Rattle.std.proofs.lemmas.Bool.{cases_lt}
use Rattle.std.proofs.lemmas.Bool.Decides.{nat_tests}
use Rattle.bit_addressing.proofs.runner.are_apart.Goals as goal

pub returns : goal.returns
returns c =
    let start = c.max.result in
    let end = c.min.result in (
      λ apart p from upto low. grind (arith, nat_tests),
      λ apart. elim (cases_lt start end) [
        | inl shared ↦ absurd (omega (arith, apart start (omega arith) (omega arith) (omega arith)))
        | inr order ↦ grind (arith, nat_tests)
      ],
    )

use Rattle.bit_addressing.proofs.CallerLemmas.{first_masked}
use Rattle.bit_addressing_tests.proofs.part_callers.first_word.Goals as goal

pub returns-clause-masked : goal.returns-clause-masked
returns-clause-masked g c =
    first_masked g.R.BitRegister.BITS g.R.BitRegister.number g.O.Positions.position c.args.words.now c.args.span _ _
    c.next.result c.domain-domain.ensures.words c.domain-domain.ensures.masked c.next.ensures.steps

use Rattle.std.proofs.Common.{◌∙◌, sym, rules}
use Rattle.bit_addressing.proofs.CallerLemmas.{places_ordered}
use Rattle.bit_addressing_tests.proofs.memory_callers.range_between.Goals as goal

-- `<=` of the two pointers is that of their places
pub from_range-requires-clause-order : goal.from_range-requires-clause-order
from_range-requires-clause-order g c =
    places_ordered g.R.BitRegister.BITS c.args.start c.args.end (search rules) (sym c.le.ensures ∙ c.if-le.true)

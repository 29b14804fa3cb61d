use Rattle.std.proofs.Common.{rules, get_or, false, not}
use Rattle.bit_slice_access.proofs.FillLemmas.{filled_by}
use Rattle.bit_slice_tests.proofs.access_callers.flip_each.Goals as goal

pub returns-clause-flipped : goal.returns-clause-flipped
returns-clause-flipped g c k low =
    filled_by _ (λ i. not (get_or (g.V.Bits.bits c.args.view.now) i false)) (λ p i bit q call. search rules) _ _ _
    c.for_each.ensures.bits.1 k (search rules)

use Rattle.bit_addressing_sample_orders.proofs.PartLemmas.{apart}
use Rattle.bit_addressing_sample_orders.proofs.word_callers.parts.Goals as goal

-- the masks have no digit in common
pub returns : goal.returns
returns g c = apart _ _ _ _ _ c.and.ensures c.and-2.ensures
    (rw (c.into_inner-2.ensures, c.into_inner-3.ensures) c.disjoint_masks-below.ensures.disjoint)

use Rattle.bit_addressing_order.proofs.OrderLemmas.{masks_apart}
use Rattle.bit_addressing_order.proofs.order.disjoint_masks.Goals as goal

pub returns-clause-disjoint : goal.returns-clause-disjoint
returns-clause-disjoint g c =
    let law = g.met.O.BitOrder.lawful in
    let first = c.mask-first.ensures in
    let later = c.mask-later.ensures in
    rw (first.value, later.value)
    (masks_apart _ _ _ _ _ _ _ _ law first.from c.requires.order first.upto later.from c.requires.later_order
    later.upto c.requires.apart)

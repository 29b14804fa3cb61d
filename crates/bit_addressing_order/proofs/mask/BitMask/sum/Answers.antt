use Rattle.bit_addressing_order.proofs.MaskLemmas.{IsUnionOf-more}
use Rattle.bit_addressing_order.proofs.mask.BitMask.sum.Goals as goal

pub loop-selector-preserved : goal.loop-selector-preserved
loop-selector-preserved g c =
    let selector = c.into_inner.ensures in
    IsUnionOf-more g.R.BitRegister.number _ _ _ c.loop-selector.yielded c.in-Some.selector
    (rw selector.value at c.or-sum.ensures) (rw selector.value at selector.one) c.loop-selector.invariant

pub returns : goal.returns
returns g c =
    let from = rw c.into_iter-selector-iterator.ensures.into_iter_gives at c.loop-selector.yielded_by in
    let last = c.next.ensures.steps in (
      c.loop-selector.yielded,
      (c.next.new.self, (c.loop-selector.selector-iterator, from, rw c.in-None.is at last)),
      rw c.new.ensures c.loop-selector.invariant,
    )

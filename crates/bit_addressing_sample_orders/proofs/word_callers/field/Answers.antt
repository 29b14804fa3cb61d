use Rattle.std.proofs.Common.{◌<◌, Some, ap, ◌∙◌, inl, inr, arith}
use Rattle.bit_addressing_order.proofs.CallerLemmas.{mask_has}
use Rattle.bit_addressing_sample_orders.proofs.PartLemmas.{kept, cleared}
use Rattle.bit_addressing_sample_orders.proofs.word_callers.field.Goals as goal

-- an index in the range is one of the mask's
pub returns-clause-kept : goal.returns-clause-kept
returns-clause-kept g c = λ i low high.
    let mask = c.mask-mask.ensures in
    let small : i < g.R.BitRegister.BITS = omega arith in
    let has = mask_has _ _ _ _ (Some c.args.from) (Some c.args.upto) i g.met.O.BitOrder.lawful mask.from c.requires
    mask.upto small in
    kept _ _ _ _ _ c.and.ensures (ap g.R.BitRegister.number c.into_inner.ensures ∙ mask.value) (has.1 (low, high))

-- and one outside of it is not
pub returns-clause-cleared : goal.returns-clause-cleared
returns-clause-cleared g c = λ i small outside.
    let mask = c.mask-mask.ensures in
    let has = mask_has _ _ _ _ (Some c.args.from) (Some c.args.upto) i g.met.O.BitOrder.lawful mask.from c.requires
    mask.upto small in
    cleared _ _ _ _ _ c.and.ensures (ap g.R.BitRegister.number c.into_inner.ensures ∙ mask.value)
    (λ one. let within = has.0 one in elim outside [ inl below ↦ omega arith | inr above ↦ omega arith ])

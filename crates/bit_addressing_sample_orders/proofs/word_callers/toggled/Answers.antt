use Rattle.std.proofs.Common.{◌<◌, ap, ◌∙◌, arith}
use Rattle.bit_addressing_sample_orders.proofs.PartLemmas.{flipped_here, flipped_other}
use Rattle.bit_addressing_sample_orders.proofs.word_callers.toggled.Goals as goal

pub returns-clause-here : goal.returns-clause-here
returns-clause-here g c =
    let alone = ap g.R.BitRegister.number c.into_inner.ensures.value ∙ c.select.ensures.value in
    flipped_here _ _ _ _ c.xor.ensures alone

-- another index has another position
pub returns-clause-others : goal.returns-clause-others
returns-clause-others g c = λ i small other.
    let alone = ap g.R.BitRegister.number c.into_inner.ensures.value ∙ c.select.ensures.value in
    let within : c.args.index < g.R.BitRegister.BITS = omega arith in
    flipped_other _ _ _ _ _ c.xor.ensures alone
    (λ same. other (g.met.O.BitOrder.lawful.one_to_one i c.args.index small within same))

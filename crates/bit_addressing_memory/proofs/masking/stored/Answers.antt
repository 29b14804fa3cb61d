use Rattle.std.proofs.Common.{ap, ◌∙◌}
use Rattle.bit_addressing_memory.proofs.StoredLemmas.{stored_digits}
use Rattle.bit_addressing_memory.proofs.masking.stored.Goals as goal

pub returns : goal.returns
returns g c =
    let number = g.R.BitRegister.number in
    let is = c.mask.ensures in
    stored_digits _ number _ _ _ _ _ _ _ _ _ g.met.O.BitOrder.lawful is.from c.requires is.upto
    (g.met.R.BitRegister.number_fits c.into_inner-mask.result) (ap number c.into_inner-mask.ensures ∙ is.value)
    c.mixed.ensures

use Rattle.std.proofs.Common.{bit_and, ap, ◌∙◌}
use Rattle.bit_addressing_memory.proofs.PartialLemmas.{masked_digits}
use Rattle.bit_addressing_memory.proofs.masking.masked.Goals as goal

pub returns-clause-digits : goal.returns-clause-digits
returns-clause-digits g c =
    let number = g.R.BitRegister.number in
    let is = c.mask.ensures in
    masked_digits _ number _ _ _ _ _ _ _ g.met.O.BitOrder.lawful is.from c.requires is.upto
    (c.and.ensures ∙ ap (bit_and (number c.args.word)) (ap number c.into_inner.ensures ∙ is.value))

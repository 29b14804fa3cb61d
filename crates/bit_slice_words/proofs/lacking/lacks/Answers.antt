use Rattle.bit_slice_words.proofs.StretchLemmas.{lacks_is}
use Rattle.bit_slice_words.proofs.lacking.lacks.Goals as goal

pub returns : goal.returns
returns g c =
    let register = g.R.BitRegister in
    let fits = g.met.R.BitRegister.number_fits in
    let without = c.word_without.result in
    let same = lacks_is register.BITS register.number g.O.Positions.position _ _ c.args.word without c.args.bit
    g.met.O.BitOrder.lawful (fits c.args.word) (fits without) c.word_without.ensures in (
      λ yes. same.0 (c.equals.ensures.0 yes),
      λ none. c.equals.ensures.1 (same.1 none),
    )

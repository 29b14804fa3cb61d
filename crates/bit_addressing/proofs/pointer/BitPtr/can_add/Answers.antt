use Rattle.std.proofs.Common.{rules, w64, pos}
use Rattle.std.specs.Int.RustNames.{FitsSigned}
use Rattle.bit_addressing.proofs.PointerLemmas.{fits_where_stays}
use Rattle.bit_addressing.proofs.pointer.BitPtr.can_add.Goals as goal

pub returns : goal.returns
returns g c =
    let word = c.raw_parts-word.ensures in
    let words = c.bits_on-words.result.0 in
    let fits : FitsSigned w64 words = search rules in
    let both = fits_where_stays g.R.BitRegister.BITS c.args.self c.raw_parts-word.result.0 words (pos c.args.count) _ _
    word.word word.bit word.word_fits fits c.bits_on-words.ensures.offset in
    (λ yes. both.0 (c.fits_on.ensures.0 yes), λ stays. c.fits_on.ensures.1 (both.1 stays))

use Rattle.std.proofs.Common.{rules, w64}
use Rattle.std.proofs.lemmas.Int.{to_z-of_z}
use Rattle.std.specs.Int.RustNames.{FitsSigned}
use Rattle.bit_addressing.proofs.PointerLemmas.{fits_where_stays}
use Rattle.bit_addressing.proofs.pointer.BitPtr.can_offset.Goals as goal

pub returns : goal.returns
returns g c =
    let word = c.raw_parts-word.ensures in
    let words = c.offset-words.result.0 in
    let fits : FitsSigned w64 words = search rules in
    let same = to_z-of_z w64 c.args.by c.ranges.by in
    let step = rw same at c.offset-words.ensures in
    let both = fits_where_stays g.R.BitRegister.BITS c.args.self c.raw_parts-word.result.0 words c.args.by _ _
    word.word word.bit word.word_fits fits step in
    (λ yes. both.0 (c.fits_on.ensures.0 yes), λ stays. c.fits_on.ensures.1 (both.1 stays))

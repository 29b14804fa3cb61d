use Rattle.std.proofs.Common.{rules, w64, pos}
use Rattle.std.proofs.lemmas.Int.{to_z-of_z}
use Rattle.std.specs.Int.RustNames.{FitsSigned}
use Rattle.bit_addressing.proofs.PointerLemmas.{moved_place, moved_fits, passed_fits}
use Rattle.bit_addressing.proofs.pointer.BitPtr.add.Goals as goal

pub stepped-requires : goal.stepped-requires
stepped-requires g c =
    let word = c.raw_parts-word.result.0 in
    let words = c.bits_on-words.result.0 in
    let fits : FitsSigned w64 words = search rules in
    let stays = rw (← c.raw_parts-word.ensures.word, ← c.raw_parts-word.ensures.bit) at c.requires.stays in
    let sum = moved_fits g.R.BitRegister.BITS word words (pos c.args.count) _ _ c.bits_on-words.ensures.offset stays in
    record { fits = passed_fits word words c.raw_parts-word.ensures.word_fits fits sum }

pub returns-clause-place : goal.returns-clause-place
returns-clause-place g c =
    let word = c.raw_parts-word.result.0 in
    let words = c.bits_on-words.result.0 in
    let fits : FitsSigned w64 words = search rules in
    let same_word = to_z-of_z w64 word c.raw_parts-word.ensures.word_fits in
    let same_words = to_z-of_z w64 words fits in
    let moved = moved_place g.R.BitRegister.BITS word words (pos c.args.count) _ _ c.bits_on-words.ensures.offset in
    cc

use Rattle.std.proofs.Common.{◌∙◌, w64}
use Rattle.std.proofs.lemmas.Int.{wrapping_add_is}
use Rattle.bit_addressing.proofs.pointer.wrapped.Goals as goal

pub returns-clause-word : goal.returns-clause-word
returns-clause-word g c =
    c.new.ensures.word ∙ wrapping_add_is w64 c.args.word c.args.words c.ranges.word c.ranges.words

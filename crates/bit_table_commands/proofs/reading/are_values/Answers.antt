use Rattle.std.proofs.Common.{◌∙◌, not, ap}
use Rattle.bit_table_layout.specs.LineWordsLeft.{words_left}
use Rattle.bit_table_commands.proofs.ReadingLemmas.{are_values-step}
use Rattle.bit_table_commands.proofs.reading.are_values.Goals as goal

pub loop-word-preserved : goal.loop-word-preserved
loop-word-preserved c =
    c.loop-word.invariant
    ∙ are_values-step c.loop-word.left (words_left c.loop-word.words) (words_left c.next.new.self)
    c.in-Some.word.now c.whole_number.result
    c.in-Some.ensures.steps c.if-left-eq0.false c.whole_number.ensures (c.is_none.ensures ∙ ap not c.if-is_none.false)

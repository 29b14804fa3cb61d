use Rattle.std.proofs.Common.{sym, ◌∙◌, ap, length}
use Rattle.bit_table_layout.specs.LineWordsLeft.{words_left}
use Rattle.bit_table_commands.proofs.ReadingLemmas.{insert-refused, insert-kept}
use Rattle.bit_table_commands.proofs.reading.read_insert.Goals as goal

pub returns-then-are_values : goal.returns-then-are_values
returns-then-are_values c =
    sym (insert-kept c.args.layout.now _ (words_left c.args.words) (words_left c.next.new.self) _ _
    c.in_ok-next.ensures.steps (ap length c.fields.ensures.fields) (sym c.in_ok-place.ensures)
    (sym c.are_values.ensures ∙ c.if-are_values.true))

pub returns-else-are_values : goal.returns-else-are_values
returns-else-are_values c =
    sym (insert-refused c.args.layout.now _ (words_left c.args.words) (words_left c.next.new.self) _
    c.in_ok-next.ensures.steps (ap length c.fields.ensures.fields)
    (sym c.are_values.ensures ∙ c.if-are_values.false))

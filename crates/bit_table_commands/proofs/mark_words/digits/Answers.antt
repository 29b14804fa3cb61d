use Rattle.std.proofs.Common.{sym, ◌∙◌}
use Rattle.bit_table_commands.proofs.DigitLemmas.{digits-read, digits-refused}
use Rattle.bit_table_commands.proofs.mark_words.digits.Goals as goal

pub returns-then-are_digits : goal.returns-then-are_digits
returns-then-are_digits c = digits-read c.args.word.now (sym c.are_digits.ensures ∙ c.if-are_digits.true)

pub returns-else-are_digits : goal.returns-else-are_digits
returns-else-are_digits c = digits-refused c.args.word.now (sym c.are_digits.ensures ∙ c.if-are_digits.false)

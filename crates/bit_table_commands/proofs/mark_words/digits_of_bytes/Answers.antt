use Rattle.std.proofs.Common.{Some, sym, ap, ◌∙◌}
use Rattle.bit_table_commands.specs.Commands.{bytes_in}
use Rattle.bit_table_commands.proofs.DigitLemmas.{no_digits}
use Rattle.bit_table_commands.proofs.mark_words.digits_of_bytes.Goals as goal

pub returns-in_default : goal.returns-in_default
returns-in_default c = ap Some (sym no_digits) ∙ sym (ap bytes_in c.in_default.ensures.steps.0)

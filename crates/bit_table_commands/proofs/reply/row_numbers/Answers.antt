use Rattle.std.proofs.Common.{◌≡◌, subst, refl, sym, ◌∙◌}
use Rattle.std.specs.Prelude.{IfOk, decimal}
use Rattle.bit_table_commands.proofs.ReplyLemmas.{row_numbers-some}
use Rattle.bit_table_commands.proofs.reply.row_numbers.Goals as goal

pub returns-else-is_empty : goal.returns-else-is_empty
returns-else-is_empty c =
    subst (λ l. IfOk c.spaced.result (λ text. text.items ≡ l))
    (row_numbers-some c.args.rows.now (sym c.is_empty.ensures ∙ c.if-is_empty.false))
    c.spaced.ensures

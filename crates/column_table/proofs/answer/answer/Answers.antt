use Rattle.std.proofs.Common.{◌∙◌, ◌++◌, ap, sym, string_bytes}
use Rattle.std.specs.Prelude.{codes, decimal}
use Rattle.bit_table.specs.Edits.{reply_to}
use Rattle.bit_table.specs.Replies.{reply_text, row_numbers}
use Rattle.bit_table.specs.CommandVariants.{Count}
use Rattle.bit_table.specs.CommandVariants.{List as Listing}
use Rattle.column_table.specs.Answers.{answer_text, csv_text}
use Rattle.column_table.proofs.AnswerLemmas.{count_same, places_same, rows_same, if_ok_along}
use Rattle.column_table.proofs.answer.answer.Goals as goal

pub returns-in-Count : goal.returns-in-Count
returns-in-Count g c = λ conditions h.
    let t = c.args.store.now.table.shape in
    if_ok_along (λ v. v.items) _ _ c.reply_line.result c.reply_line.ensures
    (ap (λ x. reply_text (reply_to t (Count x))) c.selected.ensures
    ∙ ap (λ n. decimal n ++ codes "\n") (count_same conditions t.rows h)
    ∙ ap (answer_text (string_bytes c.args.store.now.line) t conditions) (sym c.in-Count.is))

pub returns-in-List : goal.returns-in-List
returns-in-List g c = λ conditions h.
    let t = c.args.store.now.table.shape in
    if_ok_along (λ v. v.items) _ _ c.reply_line-in-List.result c.reply_line-in-List.ensures
    (ap (λ x. reply_text (reply_to t (Listing x))) c.selected-in-List.ensures
    ∙ ap (λ ps. row_numbers ps ++ codes "\n") (places_same conditions 0 t.rows h)
    ∙ ap (answer_text (string_bytes c.args.store.now.line) t conditions) (sym c.in-List.is))

pub returns-in-Rows : goal.returns-in-Rows
returns-in-Rows g c = λ conditions h.
    let t = c.args.store.now.table.shape in
    if_ok_along (λ v. v.items) _ _ c.selected_rows.result c.selected_rows.ensures
    (ap (csv_text t.layout) (rows_same conditions t.rows h)
    ∙ ap (answer_text (string_bytes c.args.store.now.line) t conditions) (sym c.in-Rows.is))

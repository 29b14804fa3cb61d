use Rattle.std.proofs.Common.{◌∙◌, ◌++◌, ap, sym, append-nil, map}
use Rattle.bit_table.specs.Edits.{numbers_at}
use Rattle.bit_table.specs.Fields.{FieldShape}
use Rattle.bit_table.specs.Marks.{row_bears, rows_passing}
use Rattle.column_table.specs.Answers.{csv_line, row_line}
use Rattle.column_table.proofs.AnswerLemmas.{items_more, selected_is}
use Rattle.column_table.proofs.answer.selected_rows.Goals as goal

pub loop-place-init : goal.loop-place-init
loop-place-init g c = sym (append-nil c.push_names.new.text.items)

pub loop-place-preserved : goal.loop-place-preserved
loop-place-preserved g c =
    items_more (λ p. row_line (numbers_at p c.args.table.now.shape.rows)) c.as_slice-place-items.result.now
    c.loop-place.place-index 0 c.push_names.new.text.items c.loop-place.text.items c.push_row.new.text.items
    c.loop-place-test.true c.loop-place.invariant c.in_ok-push_row.ensures

pub returns : goal.returns
returns g c =
    let t = c.args.table.now.shape in
    selected_is t c.fields.result.now c.push_names.new.text.items c.loop-place.text.items
    c.as_slice-place-items.result.now c.loop-place.place-index
    (c.in_ok-push_names.ensures ∙ ap (λ l. l ++ csv_line (map (λ (f : FieldShape). f.name) c.fields.result.now)) c.new-text.ensures.items)
    (c.fields.ensures.fields ∙ ap (λ l. l.fields) c.layout.ensures.layout)
    c.loop-place.invariant c.loop-place-test.false
    (c.as_slice-place-items.ensures ∙ c.in_ok-places.ensures
    ∙ ap (λ x. rows_passing (row_bears x) 0 t.rows) c.selected.ensures)

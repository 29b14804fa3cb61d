use Rattle.std.proofs.Common.{◌≡◌, ◌∙◌, ◌++◌, ap}
use Rattle.bit_table.specs.Fields.{FieldShape}
use Rattle.column_table.proofs.AnswerLemmas.{line_of}
use Rattle.column_table.proofs.answer.push_names.Goals as goal

pub returns : goal.returns
returns c =
    let named = λ (f : FieldShape). f.name in
    let first : c.extend_from_slice.new.self.items ≡ c.args.text.now.items ++ named c.in-Some.first.now =
    c.in_ok-extend_from_slice.ensures.items
    ∙ ap (λ l. c.args.text.now.items ++ l) (c.as_bytes.ensures.value ∙ c.name.ensures.name) in
    line_of named c.in-Some.first.now c.args.fields.now c.in-Some.rest.now c.args.text.now.items
    c.extend_from_slice.new.self.items c.loop-field.text.items c.push-2.new.self.items c.loop-field.field-index
    c.in-Some.ensures.cases.0 first c.loop-field.invariant c.loop-field-test.false c.in_ok-push-3.ensures.items

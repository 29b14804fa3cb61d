use Rattle.std.proofs.Common.{◌≡◌, ◌∙◌, ◌++◌, ap, rules, SFits, get_or, pos}
use Rattle.std.specs.Int.{w128}
use Rattle.std.specs.Fmt.{signed_decimal}
use Rattle.std.proofs.lemmas.Int.{to_z-of_z}
use Rattle.column_table.proofs.AnswerLemmas.{line_of, commas_more}
use Rattle.column_table.proofs.answer.push_numbers.Goals as goal

pub loop-number-preserved : goal.loop-number-preserved
loop-number-preserved c =
    let i = c.loop-number.number-index in
    let rest = c.in-Some.rest.now in
    let fits : SFits w128 (get_or rest i (pos 0)) = search rules in
    let shown = simp to_z-of_z at c.format-in-loop-number.ensures.text in
    let item : c.extend_from_slice-in-loop-number.new.self.items
    ≡ c.push-in-loop-number.new.self.items ++ signed_decimal (get_or rest i (pos 0)) =
    c.in_ok-extend_from_slice-2.ensures.items
    ∙ ap (λ l. c.push-in-loop-number.new.self.items ++ l) (c.as_bytes-in-loop-number.ensures.value ∙ shown) in
    commas_more signed_decimal rest i (pos 0) c.extend_from_slice.new.self.items c.loop-number.text.items
    c.push-in-loop-number.new.self.items c.extend_from_slice-in-loop-number.new.self.items c.loop-number-test.true
    c.loop-number.invariant c.in_ok-push-2.ensures.items item

pub returns : goal.returns
returns c =
    let fits : SFits w128 c.in-Some.first.now = search rules in
    let shown = simp to_z-of_z at c.format.ensures.text in
    let first : c.extend_from_slice.new.self.items ≡ c.args.text.now.items ++ signed_decimal c.in-Some.first.now =
    c.in_ok-extend_from_slice.ensures.items ∙ ap (λ l. c.args.text.now.items ++ l) (c.as_bytes.ensures.value ∙ shown) in
    line_of signed_decimal c.in-Some.first.now c.args.numbers.now c.in-Some.rest.now c.args.text.now.items
    c.extend_from_slice.new.self.items c.loop-number.text.items c.push-2.new.self.items c.loop-number.number-index
    c.in-Some.ensures.cases.0 first c.loop-number.invariant c.loop-number-test.false c.in_ok-push-3.ensures.items

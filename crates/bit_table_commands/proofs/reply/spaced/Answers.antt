use Rattle.std.proofs.Common.{◌≡◌, ap, ◌∙◌, ◌++◌}
use Rattle.bit_table_commands.proofs.ReplyLemmas.{spaced-of}
use Rattle.bit_table_commands.proofs.reply.spaced.Goals as goal

pub returns : goal.returns
returns g c =
    let shown = g.N.Integer.text in
    let number = c.in-Some.first.now in
    let first : c.extend_from_slice.new.self.items ≡ shown number =
    c.in_ok-extend_from_slice.ensures.items
    ∙ ap (λ l. l ++ c.as_bytes.result.now) c.new-text.ensures.items
    ∙ c.as_bytes.ensures.value
    ∙ c.format.ensures.text in
    spaced-of shown number c.args.numbers.now c.in-Some.rest.now _ _ c.loop-number.number-index
    c.in-Some.ensures.cases.0 first c.loop-number.invariant c.loop-number-test.false

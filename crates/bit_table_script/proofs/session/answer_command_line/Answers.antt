use Rattle.std.proofs.Common.{◌≡◌, Some, None, ◌∙◌, rules}
use Rattle.std.specs.Prelude.{option_map}
use Rattle.bit_table_commands.specs.Commands.{command_of, cut_off}
use Rattle.bit_table_script.proofs.AnswerLemmas.{refused_for, not_refused}
use Rattle.bit_table_script.proofs.AnswerLemmas.{if_ok_weaker, on_ok_always, is_read, accepted_text}
use Rattle.bit_table_script.proofs.AnswerLemmas.{accepted_state, refused_text, refused_state}
use Rattle.bit_table_script.proofs.session.answer_command_line.Goals as goal

pub returns-in-Ok-apply-clause-text : goal.returns-in-Ok-apply-clause-text
returns-in-Ok-apply-clause-text g c =
    let t = c.args.table.now.shape in
    let kept : option_map cut_off (command_of t.layout c.args.line.now) ≡ Some c.in-Ok.command = search rules in
    let lawful = c.layout.ensures.lawful in
    let no_cause = not_refused _ c.apply.result c.in-Ok-apply.reply c.in-Ok-apply.is c.apply.ensures.cause in
    let read = is_read t c.args.line.now c.in-Ok.command None lawful kept no_cause in
    if_ok_weaker c.line-in-Ok-apply.result _ _
    (λ text e. e ∙ accepted_text t c.args.line.now c.in-Ok.command c.in-Ok-apply.reply lawful read
    c.in-Ok-apply.ensures.reply)
    c.line-in-Ok-apply.ensures

pub returns-in-Ok-apply-clause-state : goal.returns-in-Ok-apply-clause-state
returns-in-Ok-apply-clause-state g c =
    let t = c.args.table.now.shape in
    let kept : option_map cut_off (command_of t.layout c.args.line.now) ≡ Some c.in-Ok.command = search rules in
    let lawful = c.layout.ensures.lawful in
    let no_cause = not_refused _ c.apply.result c.in-Ok-apply.reply c.in-Ok-apply.is c.apply.ensures.cause in
    let read = is_read t c.args.line.now c.in-Ok.command None lawful kept no_cause in
    on_ok_always c.line-in-Ok-apply.result _
    (accepted_state t c.apply.new.self.shape c.args.line.now c.in-Ok.command lawful read c.in-Ok-apply.ensures.ok)

pub returns-in-Err-Refused-apply-clause-text : goal.returns-in-Err-Refused-apply-clause-text
returns-in-Err-Refused-apply-clause-text g c =
    let t = c.args.table.now.shape in
    let kept : option_map cut_off (command_of t.layout c.args.line.now) ≡ Some c.in-Ok.command = search rules in
    let refused = refused_for _ c.apply.result c.in-Err-Refused-apply.cause (cc) c.apply.ensures.cause in
    let read = is_read t c.args.line.now c.in-Ok.command _ c.layout.ensures.lawful kept refused in
    if_ok_weaker c.line-in-Err-Refused-apply.result _ _
    (λ text e. e ∙ refused_text t c.args.line.now c.in-Err-Refused-apply.cause read.answered)
    c.line-in-Err-Refused-apply.ensures

pub returns-in-Err-Refused-apply-clause-state : goal.returns-in-Err-Refused-apply-clause-state
returns-in-Err-Refused-apply-clause-state g c =
    let t = c.args.table.now.shape in
    let kept : option_map cut_off (command_of t.layout c.args.line.now) ≡ Some c.in-Ok.command = search rules in
    let refused = refused_for _ c.apply.result c.in-Err-Refused-apply.cause (cc) c.apply.ensures.cause in
    let read = is_read t c.args.line.now c.in-Ok.command _ c.layout.ensures.lawful kept refused in
    on_ok_always c.line-in-Err-Refused-apply.result _
    (refused_state t c.apply.new.self.shape c.args.line.now c.in-Err-Refused-apply.cause read.answered (search rules))

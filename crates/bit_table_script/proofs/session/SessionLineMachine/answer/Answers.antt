use Rattle.std.proofs.Common.{sym, ap, refl}
use Rattle.bit_table_script.specs.Scripts.{state_of}
use Rattle.bit_table_script.specs.Shapes.{shape_in}
use Rattle.bit_table_script.proofs.AnswerLemmas.{if_and_on_ok}
use Rattle.bit_table_script.proofs.SessionLemmas.{answers-blank, answers-carried}
use Rattle.bit_table_script.proofs.session.SessionLineMachine.answer.Goals as goal

pub returns-then-not-has_word : goal.returns-then-not-has_word
returns-then-not-has_word g c =
    answers-blank _ _ c.args.line.now c.new.result.items (sym c.if-not-has_word.ensures) c.new.ensures.items refl

pub returns-in-Some : goal.returns-in-Some
returns-in-Some g c =
    let state = ap (λ t. state_of (shape_in t)) c.in-Some.is in
    if_and_on_ok c.answer_command_line.result _ _ _
    (λ text e h rest. rw state
    (answers-carried c.in-Some.table.shape _ c.args.line.now text.items (sym c.if-not-has_word.ensures) e h rest))
    c.answer_command_line.ensures.text c.answer_command_line.ensures.state

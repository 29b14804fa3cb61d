use Rattle.std.proofs.Common.{ap}
use Rattle.bit_table_script.specs.Scripts.{state_of}
use Rattle.bit_table_script.specs.Shapes.{shape_in}
use Rattle.bit_table_script.proofs.SessionLemmas.{answers-begun}
use Rattle.bit_table_script.proofs.session.Session.begin.Goals as goal

pub returns : goal.returns
returns g c =
    let state = ap (λ t. state_of (shape_in t)) c.requires.none in
    let begun = c.in_ok-table.ensures in
    λ rest. rw state
    (answers-begun _ c.args.line.now c.in_ok-table.text.items c.requires.word begun.text begun.state rest)

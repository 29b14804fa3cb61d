use Rattle.std.proofs.Common.{◌≡◌, ◌∙◌, ap}
use Rattle.std.specs.Prelude.{None}
use Rattle.bit_table.specs.Causes.{cause_in}
use Rattle.bit_table.specs.Edits.{edit}
use Rattle.bit_table.specs.CommandVariants.{Load}
use Rattle.column_table.proofs.PackedLemmas.{loaded, not_refused}
use Rattle.column_table.proofs.read_back.read_back.Goals as goal

pub returns-in-Ok-apply-clause-rows : goal.returns-in-Ok-apply-clause-rows
returns-in-Ok-apply-clause-rows g c = λ t lawful are.
    loaded t c.new-table.result.shape c.apply.new.self.shape c.in-Ok.layout c.args.line.now c.args.rows c.args.bytes.items
    lawful are c.in-Ok.ensures.ok c.new-table.ensures.shape
    (c.in-Ok-apply.ensures.ok ∙ ap (λ image. edit c.new-table.result.shape (Load c.args.rows image)) c.new.ensures)

pub returns-in-Err-Refused-apply-clause-err : goal.returns-in-Err-Refused-apply-clause-err
returns-in-Err-Refused-apply-clause-err g c = λ t lawful are.
    let none : cause_in c.new-table.result.shape (Load c.args.rows c.new.result) ≡ None =
    not_refused t c.new-table.result.shape c.in-Ok.layout c.args.line.now c.args.rows c.args.bytes.items c.new.result
    lawful are c.in-Ok.ensures.ok c.new-table.ensures.shape c.new.ensures in
    let told = rw none at c.in-Err-Refused-apply.ensures.cause in
    absurd cc

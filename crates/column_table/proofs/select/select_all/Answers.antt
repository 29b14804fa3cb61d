use Rattle.std.proofs.Common.{◌≡◌, ◌∙◌, ap, refl, IsOk}
use Rattle.bit_table.specs.Edits.{edit}
use Rattle.bit_table.specs.CommandVariants.{Not}
use Rattle.column_table.specs.Selections.{letter}
use Rattle.bit_table.proofs.AcceptedLemmas.{not-accepted, carried_out}
use Rattle.column_table.proofs.SelectLemmas.{all_selected, not-same, same_then}
use Rattle.column_table.proofs.select.select_all.Goals as goal

pub returns-clause-selected : goal.returns-clause-selected
returns-clause-selected g c =
    let mid = c.clear.new.table.shape in
    let done : IsOk c.apply.result = c.apply.ensures.succeeds refl (not-accepted mid c.selected.result c.rows-rows.ensures.lawful) in
    let is : c.apply.new.self.shape ≡ edit mid (Not letter) =
    carried_out c.apply.result done c.apply.ensures.ok ∙ ap (λ x. edit mid (Not x)) c.selected.ensures in
    all_selected c.args.table.now.shape mid c.apply.new.self.shape c.clear.ensures.none is

pub returns-clause-same : goal.returns-clause-same
returns-clause-same g c =
    let mid = c.clear.new.table.shape in
    let done : IsOk c.apply.result = c.apply.ensures.succeeds refl (not-accepted mid c.selected.result c.rows-rows.ensures.lawful) in
    same_then c.args.table.now.shape mid c.apply.new.self.shape c.clear.ensures.same
    (not-same mid c.apply.new.self.shape c.selected.result (carried_out c.apply.result done c.apply.ensures.ok))

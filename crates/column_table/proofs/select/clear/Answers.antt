use Rattle.std.proofs.Common.{◌≡◌, ◌∙◌, ap₂}
use Rattle.bit_table.specs.Edits.{edit}
use Rattle.bit_table.specs.CommandVariants.{Combine}
use Rattle.bit_table.specs.BoolOpVariants.{Xor}
use Rattle.column_table.specs.Selections.{letter}
use Rattle.column_table.proofs.SelectLemmas.{cleared, combined-same}
use Rattle.column_table.proofs.select.clear.Goals as goal

pub returns-clause-none : goal.returns-clause-none
returns-clause-none g c =
    let old = c.args.table.now.shape in
    let is : c.combine.new.self.shape ≡ edit old (Combine Xor letter letter) =
    c.combine.ensures.shape ∙ ap₂ (λ x y. edit old (Combine Xor x y)) c.selected.ensures c.selected-2.ensures in
    cleared old c.combine.new.self.shape is

pub returns-clause-same : goal.returns-clause-same
returns-clause-same g c =
    combined-same c.args.table.now.shape c.combine.new.self.shape Xor c.selected.result c.selected-2.result
    c.combine.ensures.shape

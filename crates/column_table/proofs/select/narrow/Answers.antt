-- A value that the field takes is compared row by row; any other compares with each number as with 0.
use Rattle.std.proofs.Common.{◌≡◌, ◌∙◌, true, false, ap, ap₂, sym, refl, IsOk, rules, SFits, Some}
use Rattle.std.specs.Int.{w128}
use Rattle.std.proofs.lemmas.Int.{to_z-of_z}
use Rattle.bit_table.specs.Edits.{edit}
use Rattle.bit_table.specs.CommandVariants.{Mark, Combine}
use Rattle.bit_table.specs.BoolOpVariants.{And}
use Rattle.column_table.specs.Selections.{letter}
use Rattle.bit_table.proofs.AcceptedLemmas.{mark-accepted, carried_out}
use Rattle.column_table.proofs.SelectLemmas.{narrowed, narrowed_to_none, narrowed_to_all, mark-same, combined-same}
use Rattle.column_table.proofs.SelectLemmas.{same_then, taken_by}
use Rattle.column_table.proofs.select.narrow.Goals as goal

pub returns-then-takes-clause-narrowed : goal.returns-then-takes-clause-narrowed
returns-then-takes-clause-narrowed g c =
    let old = c.args.table.now.shape in
    let condition = c.args.condition in
    let fits : SFits w128 c.args.condition.value = search rules in
    let field = c.index-fields-field.result in
    let taken = taken_by old.layout.fields c.fields.result.now condition.field condition.value field true
    c.index-fields-field.is (c.fields.ensures.fields ∙ ap (λ l. l.fields) c.layout.ensures.layout)
    (simp to_z-of_z at c.if-takes.ensures) in
    let succeeds = simp to_z-of_z at c.apply.ensures.succeeds in
    let done : IsOk c.apply.result = succeeds refl (mark-accepted old c.looked_at-letter.result condition.field condition.test
    condition.value field c.layout.ensures.lawful c.requires taken) in
    let ok = simp to_z-of_z at c.apply.ensures.ok in
    let marked : c.apply.new.self.shape ≡ edit old (Mark 1 (Some condition.field) condition.test condition.value) =
    carried_out c.apply.result done ok
    ∙ ap (λ x. edit old (Mark x (Some condition.field) condition.test condition.value)) c.looked_at-letter.ensures in
    let joined : c.combine.new.self.shape ≡ edit c.apply.new.self.shape (Combine And letter 1) =
    c.combine.ensures.shape
    ∙ ap₂ (λ x y. edit c.apply.new.self.shape (Combine And x y)) c.selected.ensures c.looked_at-letter.ensures in
    narrowed old c.apply.new.self.shape c.combine.new.self.shape condition marked joined

pub returns-then-takes-clause-same : goal.returns-then-takes-clause-same
returns-then-takes-clause-same g c =
    let old = c.args.table.now.shape in
    let condition = c.args.condition in
    let fits : SFits w128 c.args.condition.value = search rules in
    let field = c.index-fields-field.result in
    let taken = taken_by old.layout.fields c.fields.result.now condition.field condition.value field true
    c.index-fields-field.is (c.fields.ensures.fields ∙ ap (λ l. l.fields) c.layout.ensures.layout)
    (simp to_z-of_z at c.if-takes.ensures) in
    let succeeds = simp to_z-of_z at c.apply.ensures.succeeds in
    let done : IsOk c.apply.result = succeeds refl (mark-accepted old c.looked_at-letter.result condition.field condition.test
    condition.value field c.layout.ensures.lawful c.requires taken) in
    same_then old c.apply.new.self.shape c.combine.new.self.shape
    (mark-same old c.apply.new.self.shape c.looked_at-letter.result (Some condition.field) condition.test condition.value
    (carried_out c.apply.result done (simp to_z-of_z at c.apply.ensures.ok)))
    (combined-same c.apply.new.self.shape c.combine.new.self.shape And c.selected.result c.looked_at-letter.result
    c.combine.ensures.shape)

pub returns-then-not-passes-clause-narrowed : goal.returns-then-not-passes-clause-narrowed
returns-then-not-passes-clause-narrowed g c =
    let old = c.args.table.now.shape in
    let condition = c.args.condition in
    let fits : SFits w128 c.args.condition.value = search rules in
    let field = c.index-fields-field.result in
    let not_taken = taken_by old.layout.fields c.fields.result.now condition.field condition.value field false
    c.index-fields-field.is (c.fields.ensures.fields ∙ ap (λ l. l.fields) c.layout.ensures.layout)
    (simp to_z-of_z at c.if-takes.ensures) in
    let passing = simp to_z-of_z at c.if-not-passes.ensures in
    narrowed_to_none old c.clear.new.table.shape condition field c.layout.ensures.lawful c.requires not_taken (sym passing)
    c.clear.ensures.none

pub returns-else-not-passes-clause-narrowed : goal.returns-else-not-passes-clause-narrowed
returns-else-not-passes-clause-narrowed g c =
    let old = c.args.table.now.shape in
    let condition = c.args.condition in
    let fits : SFits w128 c.args.condition.value = search rules in
    let field = c.index-fields-field.result in
    let not_taken = taken_by old.layout.fields c.fields.result.now condition.field condition.value field false
    c.index-fields-field.is (c.fields.ensures.fields ∙ ap (λ l. l.fields) c.layout.ensures.layout)
    (simp to_z-of_z at c.if-takes.ensures) in
    let passing = simp to_z-of_z at c.if-not-passes.ensures in
    narrowed_to_all old condition field c.layout.ensures.lawful c.requires not_taken (sym passing)

use Rattle.std.proofs.Common.{sym, refl}
use Rattle.bit_table_layout.specs.Letters.{combined}
use Rattle.bit_table_layout.specs.LetterSets.{bears}
use Rattle.bit_table_commands.specs.declared.command.Command.TheVariants.{Combine}
use Rattle.bit_table_script.proofs.TableLemmas.{count_is, rows_decided, shape_after}
use Rattle.bit_table_script.proofs.table.Table.combine.Goals as goal

pub returns-clause-shape : goal.returns-clause-shape
returns-clause-shape g c =
    let t = c.self.inside in
    let h = c.self.invariant in
    let letters = rw (c.index.ensures.index, c.index-2.ensures.index) at c.combine.ensures.sets in
    shape_after _ t.layout _ _ _ c.self.view_is h.0 h.1 h.2 (Combine c.args.op c.args.x c.args.y) _ _
    (rows_decided t.layout _ h.1 c.args.x
    (λ letters. combined c.args.op (bears c.args.x letters) (bears c.args.y letters)) _ letters) refl

pub returns-clause-steps : goal.returns-clause-steps
returns-clause-steps g c =
    let t = c.self.inside in
    let h = c.self.invariant in
    let steps = rw (c.index.ensures.index, c.index-2.ensures.index, h.1.marked) at c.combine.ensures.steps in
    let count = count_is _ t.layout _ _ _ c.self.view_is h.0 h.1 h.2 in
    λ differ. rw (sym count) (steps differ)

pub returns-clause-alone : goal.returns-clause-alone
returns-clause-alone g c = rw (c.index.ensures.index, c.index-2.ensures.index) at c.combine.ensures.alone

use Rattle.std.proofs.Common.{not, refl}
use Rattle.bit_table_layout.specs.LetterSets.{bears}
use Rattle.bit_table_commands.specs.declared.command.Command.TheVariants.{Not}
use Rattle.bit_table_script.proofs.TableLemmas.{rows_decided, shape_after}
use Rattle.bit_table_script.proofs.table.Table.invert.Goals as goal

pub returns-clause-shape : goal.returns-clause-shape
returns-clause-shape g c =
    let t = c.self.inside in
    let h = c.self.invariant in
    let x = c.args.letter in
    let letters = rw c.index.ensures.index at c.invert.ensures.sets in
    shape_after _ t.layout _ _ _ c.self.view_is h.0 h.1 h.2 (Not x) _ _
    (rows_decided t.layout _ h.1 x (λ letters. not (bears x letters)) _ letters) refl

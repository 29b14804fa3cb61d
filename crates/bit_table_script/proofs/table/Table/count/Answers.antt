use Rattle.std.proofs.Common.{count_by, ap, ◌∙◌}
use Rattle.bit_table_layout.specs.Readings.{rows_from}
use Rattle.bit_table_layout.specs.LetterSets.{bears}
use Rattle.bit_table_commands.specs.Marks.{row_bears}
use Rattle.bit_table_commands.specs.declared.reply.Reply.TheVariants.{Count}
use Rattle.bit_table_script.proofs.MarkedLemmas.{count-lettered}
use Rattle.bit_table_script.proofs.TableLemmas.{as_many, rows_are}
use Rattle.bit_table_script.proofs.table.Table.count.Goals as goal

pub returns : goal.returns
returns g c =
    let t = c.self.inside in
    let h = c.self.invariant in
    let x = c.args.letter in
    ap Count (c.count.ensures ∙ ap (λ k. count_by (bears k) t.letters.sets) c.index.ensures.index
    ∙ count-lettered x (rows_from t.layout t.rows _) t.letters.sets (as_many t.layout _ h.1)
    ∙ ap (count_by (row_bears x)) (rows_are _ t.layout _ _ _ c.self.view_is h.0 h.1 h.2))

use Rattle.std.proofs.Common.{Some, length, ap, ◌∙◌, refl, arith}
use mir.Syntax.{w128}
use Rattle.std.proofs.lemmas.Int.{to_z-of_z}
use Rattle.bit_table_commands.specs.Marks.{number_in_field, passes}
use Rattle.bit_table_commands.specs.declared.command.Command.TheVariants.{Mark}
use Rattle.bit_table_script.proofs.MarkedLemmas.{length-told}
use Rattle.bit_table_script.proofs.TableLemmas.{rows_told_by, shape_after}
use Rattle.bit_table_script.proofs.table.Table.mark.Goals as goal

pub invariant_of-self : goal.invariant_of-self
invariant_of-self g c =
    let t = c.self.inside in
    let h = c.self.invariant in (
      h.0,
      record {
        fits = h.1.fits;
        room = h.1.room;
        marked = ap length c.mark_rows.ensures.sets ∙ length-told _ _ t.letters.sets ∙ h.1.marked;
      },
      h.2,
      h.3,
      h.4,
      record { within = h.5.within; bits = h.5.bits; letters = omega (arith, h.5.letters, c.mark_rows.ensures.space) },
    )

pub returns-clause-shape : goal.returns-clause-shape
returns-clause-shape g c =
    let t = c.self.inside in
    let h = c.self.invariant in
    let value = to_z-of_z w128 c.args.value c.ranges.value in
    let letters = rw (c.index-letter.ensures.index, value, h.1.marked) at c.mark_rows.ensures.sets in
    rw c.in-Some.is (shape_after _ t.layout _ _ _ c.self.view_is h.0 h.1 h.2
    (Mark c.args.letter (Some c.in-Some.field) c.args.test c.args.value) _ _
    (rows_told_by t.layout _ h.1 c.args.letter
    (λ row. passes c.args.test (number_in_field (Some c.in-Some.field) row) c.args.value) _ (λ row letters. refl) letters)
    refl)

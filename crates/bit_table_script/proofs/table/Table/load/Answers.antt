use Rattle.std.proofs.Common.{◌*◌, length, ap, ◌∙◌, refl, arith}
use Rattle.std.proofs.lemmas.List.{length-replicate}
use Rattle.std.specs.FinSet as set
use Rattle.bit_containers_vector.proofs.CallerLemmas.{room_holds}
use Rattle.bit_table_layout.specs.Layouts.{row_width}
use Rattle.bit_table_layout.specs.Loads.{rows_in_bytes}
use Rattle.bit_table_layout.proofs.RowLemmas.{are_rows-rows_from, length-rows_from, length-table_bits}
use Rattle.bit_table_commands.specs.declared.command.Command.TheVariants.{Load}
use Rattle.bit_table_script.proofs.TableLemmas.{rows_loaded, shape_after}
use Rattle.bit_table_script.proofs.table.Table.load.Goals as goal

pub invariant_of-self : goal.invariant_of-self
invariant_of-self g c =
    let t = c.self.inside in
    let h = c.self.invariant in
    let rows = rows_in_bytes t.layout c.args.rows c.args.bytes.now in
    let size =
    ap length c.in-Ok.ensures.rows
    ∙ length-table_bits t.layout rows (are_rows-rows_from t.layout c.args.rows _ h.0)
    ∙ ap (λ k. k * row_width t.layout.fields) (length-rows_from t.layout c.args.rows _) in (
      h.0,
      record {
        fits = size;
        room = c.in-Ok.ensures.taken.0;
        marked = ap length c.in_ok-letters.ensures.sets ∙ length-replicate c.args.rows set.empty;
      },
      h.2,
      h.3,
      c.in-Ok.ensures.head,
      record {
        within = omega arith;
        bits = omega (arith, room_holds g.O.Positions.position c.in-Ok.bits, size);
        letters = omega (arith, c.in_ok-letters.ensures.space);
      },
    )

pub returns-clause-ok : goal.returns-clause-ok
returns-clause-ok g c =
    let t = c.self.inside in
    let h = c.self.invariant in
    shape_after _ t.layout _ _ _ c.self.view_is h.0 h.1 h.2 (Load c.args.rows c.args.bytes.now) _ _
    (rows_loaded t.layout _ c.args.bytes.now c.in-Ok.ensures.bits c.in_ok-letters.ensures.sets) refl

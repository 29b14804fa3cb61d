use Rattle.std.proofs.Common.{[], ap, sym, ◌∙◌, arith}
use Rattle.std.specs.Option.{option_map_or}
use Rattle.bit_table_layout.specs.Layouts.{row_width}
use Rattle.bit_table_layout.specs.Readings.{rows_from}
use Rattle.bit_table_layout.specs.Rows.{Row}
use Rattle.bit_table_commands.specs.declared.command.Command.TheVariants.{Get}
use Rattle.bit_table_commands.specs.declared.reply.Reply.TheVariants.{Numbers}
use Rattle.bit_table_commands.specs.Edits.{numbers_at}
use Rattle.bit_table_rows.proofs.PlaceLemmas.{place_end}
use Rattle.bit_table_rows.proofs.RowListCallerLemmas.{row_read}
use Rattle.bit_table_script.proofs.LetteredLemmas.{numbers_at-lettered}
use Rattle.bit_table_script.proofs.TableLemmas.{in_range, rows_are}
use Rattle.bit_table_script.proofs.table.Table.get.Goals as goal

pub load_row-requires : goal.load_row-requires
load_row-requires g c =
    let t = c.self.inside in
    let h = c.self.invariant in
    let low = in_range _ t.layout _ _ _ c.self.view_is h.0 h.1 h.2 (Get c.args.row) c.requires in
    rw c.row_bits.ensures.bits (omega (arith, place_end c.args.row t.rows (row_width t.layout.fields) low, h.1.fits))

pub returns : goal.returns
returns g c =
    let t = c.self.inside in
    let h = c.self.invariant in
    let low = in_range _ t.layout _ _ _ c.self.view_is h.0 h.1 h.2 (Get c.args.row) c.requires in
    let made = rw c.row_bits.ensures.bits at c.in_ok-numbers.ensures.value in
    ap Numbers (c.new-2.ensures ∙ made
    ∙ ap (λ row. option_map_or (λ (row : Row). row.numbers) row [])
    (sym (row_read t.layout t.rows _ h.1.fits c.args.row low))
    ∙ sym (numbers_at-lettered c.args.row (rows_from t.layout t.rows _) t.letters.sets)
    ∙ ap (numbers_at c.args.row) (rows_are _ t.layout _ _ _ c.self.view_is h.0 h.1 h.2))

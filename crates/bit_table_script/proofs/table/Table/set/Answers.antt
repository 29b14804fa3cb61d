use Rattle.std.proofs.Common.{◌≡◌, Some, ap, ◌∙◌, refl, arith, slice_get, get_or, set}
use mir.Syntax.{w128}
use Rattle.std.proofs.lemmas.Int.{to_z-of_z}
use Rattle.std.proofs.lemmas.Option.{get_or_from_slice_get}
use Rattle.bit_table_layout.specs.Layouts.{row_width}
use Rattle.bit_table_layout.specs.Readings.{rows_from}
use Rattle.bit_table_commands.specs.declared.command.Command.TheVariants.{Set}
use Rattle.bit_table_rows.proofs.PlaceLemmas.{place_end}
use Rattle.bit_table_rows.proofs.RowListCallerLemmas.{field_inside, rows_after_set}
use Rattle.bit_table_script.proofs.TableLemmas.{in_range, rows_changed, shape_after, values_are}
use Rattle.bit_table_script.proofs.table.Table.set.Goals as goal

pub store_number-requires-clause-within : goal.store_number-requires-clause-within
store_number-requires-clause-within g c =
    let t = c.self.inside in
    let h = c.self.invariant in
    let its = values_are _ t.layout _ _ _ c.self.view_is h.0 h.1 h.2
    (Set c.args.row (Some c.args.field) c.args.value) c.requires in
    let place = its.place_is in
    let same : c.args.field ≡ its.index = cc in
    let is : slice_get t.layout.fields c.args.field ≡ Some its.field =
    ap (slice_get t.layout.fields) same ∙ its.field_is in
    let got : c.index-fields-field.result ≡ its.field =
    c.index-fields-field.is
    ∙ ap (λ fs. get_or fs c.args.field c.index-fields-field.result) c.fields.ensures.fields
    ∙ get_or_from_slice_get t.layout.fields c.args.field its.field c.index-fields-field.result is in
    let width : c.width-width.result ≡ its.field.width = c.width-width.ensures.width ∙ ap (λ f. f.width) got in
    let low = in_range _ t.layout _ _ _ c.self.view_is h.0 h.1 h.2
    (Set c.args.row (Some c.args.field) c.args.value) c.requires in
    let inside = field_inside t.layout.fields c.args.field its.field is in
    rw (c.row_bits.ensures.bits, c.bits_before.ensures, width)
    (omega (arith, place_end c.args.row t.rows (row_width t.layout.fields) low, inside, h.1.fits))

pub returns-clause-shape : goal.returns-clause-shape
returns-clause-shape g c =
    let t = c.self.inside in
    let h = c.self.invariant in
    let its = values_are _ t.layout _ _ _ c.self.view_is h.0 h.1 h.2
    (Set c.args.row (Some c.args.field) c.args.value) c.requires in
    let place = its.place_is in
    let same : c.args.field ≡ its.index = cc in
    let is : slice_get t.layout.fields c.args.field ≡ Some its.field =
    ap (slice_get t.layout.fields) same ∙ its.field_is in
    let got : c.index-fields-field.result ≡ its.field =
    c.index-fields-field.is
    ∙ ap (λ fs. get_or fs c.args.field c.index-fields-field.result) c.fields.ensures.fields
    ∙ get_or_from_slice_get t.layout.fields c.args.field its.field c.index-fields-field.result is in
    let width : c.width-width.result ≡ its.field.width = c.width-width.ensures.width ∙ ap (λ f. f.width) got in
    let low = in_range _ t.layout _ _ _ c.self.view_is h.0 h.1 h.2
    (Set c.args.row (Some c.args.field) c.args.value) c.requires in
    let bits = rw (
      c.row_bits.ensures.bits,
      c.bits_before.ensures,
      c.rule.ensures,
      width,
      to_z-of_z w128 c.args.value c.ranges.value,
    )
    at c.store_number.ensures.bits in
    shape_after _ t.layout _ _ _ c.self.view_is h.0 h.1 h.2
    (Set c.args.row (Some c.args.field) c.args.value) _ _
    (rows_changed _ t.layout _ _ _ c.self.view_is h.0 h.1 h.2 (λ ns. set ns c.args.field c.args.value) c.args.row _
    (ap (rows_from t.layout t.rows) bits
    ∙ rows_after_set t.layout t.rows _ h.1.fits c.args.row c.args.field its.field c.args.value h.0 low is its.taken)
    refl) refl

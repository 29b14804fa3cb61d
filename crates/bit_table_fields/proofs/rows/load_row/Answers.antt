use Rattle.std.proofs.Common.{ap, take, ◌∙◌, arith}
use mir.Syntax.{w128}
use Rattle.std.proofs.lemmas.Int.{to_z-of_z}
use Rattle.std.proofs.lemmas.List.Sums.{sum_by_more, sum_by_more_le}
use Rattle.bit_table_layout.specs.Fields.{FieldShape}
use Rattle.bit_table_layout.specs.Layouts.{row_width}
use Rattle.bit_table_fields.proofs.CountLemmas.{takes_field}
use Rattle.bit_table_fields.proofs.FieldLemmas.{loaded_more}
use Rattle.bit_table_fields.proofs.rows.load_row.Goals as goal

pub overflow_add-place : goal.overflow_add-place
overflow_add-place g c =
    let f = c.index-fields-index.result in
    let same = ap row_width c.fields-fields.ensures.fields in
    let width = c.width-width.ensures.width ∙ ap (λ (x : FieldShape). x.width) c.index-fields-index.is in
    let fits =
    sum_by_more_le (λ (x : FieldShape). x.width) c.fields-fields.result.now c.loop-index.index f c.loop-index-test.true
    in
    omega (arith, c.loop-index.invariant.place, c.requires, c.len-bits.ensures, c.len-bits.type_inv)

pub loop-index-preserved : goal.loop-index-preserved
loop-index-preserved g c =
    let i = c.loop-index.index in
    let fs = c.fields-fields.result.now in
    let f = c.index-fields-index.result in
    let width = c.width-width.ensures.width in
    let shape = ap (λ (x : FieldShape). x.width) c.index-fields-index.is in
    let more = sum_by_more (λ (x : FieldShape). x.width) fs i f c.loop-index-test.true in
    let value = to_z-of_z w128 c.load_number.result (record { sfits = c.load_number.type_inv }) in
    record {
      place = omega (arith, c.loop-index.invariant.place);
      steps =
          takes_field c.args.steps.now c.loop-index.steps _ i (row_width (take i fs)) _
          g.V.Store.BitRegister.BITS _ c.width-width.result _
          (omega (arith, g.met.V.Store.BitRegister.least_bits)) (omega (arith, more, width, shape))
          c.loop-index.invariant.steps c.load_number.ensures.steps;
      loaded =
          loaded_more c.rule-rule.result fs i c.args.at c.loop-index.place c.width-width.result c.signed-signed.result f
          (g.V.Bits.bits c.args.view.now) _ _ _ c.loop-index-test.true c.index-fields-index.is width
          c.signed-signed.ensures c.loop-index.invariant.place (value ∙ c.load_number.ensures.value) c.loop-index.invariant.loaded
          c.in_ok-push.ensures.items;
    }

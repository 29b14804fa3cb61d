use Rattle.std.proofs.Common.{length, get_or, pos, SFits, sym, take, ap, ◌∙◌, refl, arith, rules}
use mir.Syntax.{w128}
use Rattle.std.proofs.lemmas.Int.{to_z-of_z}
use Rattle.std.proofs.lemmas.List.Sums.{sum_by_more, sum_by_more_le}
use Rattle.bit_table_layout.specs.Fields.{FieldShape}
use Rattle.bit_table_layout.specs.Layouts.{row_width}
use Rattle.bit_slice_words.proofs.StepLemmas.{takes_none}
use Rattle.bit_table_fields.proofs.CountLemmas.{takes_field}
use Rattle.bit_table_fields.proofs.WindowLemmas.{none_written}
use Rattle.bit_table_fields.proofs.FieldLemmas.{stored_more}
use Rattle.bit_table_fields.proofs.rows.store_row.Goals as goal

pub loop-index-init : goal.loop-index-init
loop-index-init g c = record {
  at = omega arith;
  bits = sym (none_written (g.V.Bits.bits c.args.view.now) c.args.at (omega (arith, c.requires.within)));
  len = refl;
  frame = refl;
  steps = takes_none c.args.steps.now;
}

pub store_number-requires-clause-within : goal.store_number-requires-clause-within
store_number-requires-clause-within g c =
    let fs = c.fields-fields.result.now in
    let f = c.index-fields-index.result in
    let same = ap row_width c.fields-fields.ensures.fields in
    let width = c.width-width.ensures.width ∙ ap (λ (x : FieldShape). x.width) c.index-fields-index.is in
    let fits = sum_by_more_le (λ (x : FieldShape). x.width) fs c.loop-index.index f c.loop-index-test.true in
    omega (arith, c.loop-index.invariant.at, c.loop-index.invariant.len, c.requires.within)

pub overflow_add-place : goal.overflow_add-place
overflow_add-place g c =
    let f = c.index-fields-index.result in
    let same = ap row_width c.fields-fields.ensures.fields in
    let width = c.width-width.ensures.width ∙ ap (λ (x : FieldShape). x.width) c.index-fields-index.is in
    let fits =
    sum_by_more_le (λ (x : FieldShape). x.width) c.fields-fields.result.now c.loop-index.index f c.loop-index-test.true
    in
    omega (arith, c.loop-index.invariant.at, c.requires.within, c.len-bits.ensures, c.len-bits.type_inv)

pub loop-index-preserved : goal.loop-index-preserved
loop-index-preserved g c =
    let i = c.loop-index.index in
    let fs = c.fields-fields.result.now in
    let vs = c.args.values.now in
    let f = c.index-fields-index.result in
    let is = c.fields-fields.ensures.fields in
    let same = ap row_width is in
    let count = c.requires.count ∙ sym (ap length is) in
    let width = c.width-width.ensures.width ∙ ap (λ (x : FieldShape). x.width) c.index-fields-index.is in
    let more = sum_by_more (λ (x : FieldShape). x.width) fs i f c.loop-index-test.true in
    let sfits : SFits w128 (get_or vs i (pos 0)) = search rules in
    let value = to_z-of_z w128 (get_or vs i (pos 0)) sfits in
    record {
      at = omega (arith, c.loop-index.invariant.at);
      bits =
          stored_more c.rule-rule.result fs vs i c.args.at c.loop-index.place c.width-width.result _ f
          (g.V.Bits.bits c.args.view.now) (g.V.Bits.bits c.loop-index.view) (g.V.Bits.bits c.store_number.new.view)
          c.loop-index-test.true count width value c.loop-index.invariant.at
          (omega (arith, c.requires.within)) c.loop-index.invariant.bits c.store_number.ensures.bits;
      len = c.store_number.ensures.len ∙ c.loop-index.invariant.len;
      frame = c.store_number.ensures.frame ∙ c.loop-index.invariant.frame;
      steps =
          takes_field c.args.steps.now c.loop-index.steps _ i (row_width (take i fs)) _ g.V.Store.BitRegister.BITS _
          c.width-width.result _ (omega (arith, g.met.V.Store.BitRegister.least_bits)) (omega (arith, more, width))
          c.loop-index.invariant.steps c.store_number.ensures.steps;
    }

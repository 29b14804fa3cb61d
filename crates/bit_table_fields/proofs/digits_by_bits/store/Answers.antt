use Rattle.std.proofs.Common.{◌∙◌, ap, arith, of_z, refl, sym, to_z}
use mir.Syntax.{w128}
use Rattle.std.proofs.lemmas.Int.{to_z-of_z}
use Rattle.bit_addressing_memory.specs.Memory.{with_piece}
use Rattle.bit_slice_words.proofs.StepLemmas.{takes_none, takes_more}
use Rattle.bit_table_fields.proofs.WindowLemmas.{all_stored, digit_stored, none_written}
use Rattle.bit_table_layout.specs.Digits.{has_digit}
use Rattle.bit_table_layout.specs.Rows.{field_bits}
use Rattle.bit_table_fields.proofs.digits_by_bits.store.Goals as goal

pub loop-k-init : goal.loop-k-init
loop-k-init g c = record {
  bits = sym (none_written (g.V.Bits.bits c.args.view.now) c.args.at (omega (arith, c.requires.within)));
  len = refl;
  frame = refl;
  steps = takes_none c.args.steps.now;
}

pub loop-k-preserved : goal.loop-k-preserved
loop-k-preserved g c =
    let v = to_z w128 (of_z w128 c.args.value) in
    let digit = c.digit_at-bit.ensures ∙ ap (has_digit v) c.place_of.ensures.value in
    record {
      bits =
          digit_stored c.args.rule c.args.width v c.args.at c.loop-k.k (g.V.Bits.bits c.args.view.now)
          (g.V.Bits.bits c.loop-k.view) (g.V.Bits.bits c.set.new.self) c.digit_at-bit.result c.loop-k-test.true
          c.requires.within c.loop-k.invariant.bits digit c.set.ensures.bits;
      len = c.set.ensures.len ∙ c.loop-k.invariant.len;
      frame = c.set.ensures.frame ∙ c.loop-k.invariant.frame;
      steps = takes_more _ _ _ c.loop-k.k c.step.ensures c.loop-k.invariant.steps;
    }

pub returns-clause-bits : goal.returns-clause-bits
returns-clause-bits g c =
    let old = g.V.Bits.bits c.args.view.now in
    let v = to_z w128 (of_z w128 c.args.value) in
    c.loop-k.invariant.bits
    ∙ ap (with_piece old c.args.at)
    (all_stored c.args.rule c.args.width v c.loop-k.k (omega (arith, c.loop-k.auto.k-end))
    ∙ ap (field_bits c.args.rule c.args.width) (to_z-of_z w128 c.args.value c.ranges.value))

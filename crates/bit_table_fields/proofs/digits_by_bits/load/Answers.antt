use Rattle.std.proofs.Common.{◌≡◌, cond, get_or, length, false, refl, sym, ap, ap₂, ◌∙◌, arith}
use mir.Syntax.{w128}
use Rattle.std.proofs.lemmas.Int.{to_z-of_z}
use Rattle.bit_table_layout.specs.Readings.{number_from_digits}
use Rattle.bit_table_fields.proofs.WindowLemmas.{so_far_none, so_far_more, so_far_all, so_far_small, bit_small}
use Rattle.bit_table_fields.proofs.WindowLemmas.{byte_is}
use Rattle.bit_table_fields.proofs.digits_by_bits.load.Goals as goal

pub loop-k-init : goal.loop-k-init
loop-k-init g c = record {
  digits = sym (so_far_none c.args.rule c.len-width.result (g.V.Bits.bits c.args.view.now) (sym c.len-width.ensures));
  steps = refl;
}

pub overflow_add-taken : goal.overflow_add-taken
overflow_add-taken g c = omega (arith, c.loop-k.invariant.steps)

-- 64 digits are below 2 ^ 64
pub overflow_mul-digits : goal.overflow_mul-digits
overflow_mul-digits g c =
    let held = g.V.Bits.bits c.args.view.now in
    let small =
    so_far_small c.args.rule c.len-width.result held c.loop-k.k (sym c.len-width.ensures) (omega arith)
    (omega (arith, c.len-width.ensures, c.requires.narrow)) in
    omega (arith, c.loop-k.invariant.digits)

pub overflow_add-digits : goal.overflow_add-digits
overflow_add-digits g c =
    let held = g.V.Bits.bits c.args.view.now in
    let small =
    so_far_small c.args.rule c.len-width.result held c.loop-k.k (sym c.len-width.ensures) (omega arith)
    (omega (arith, c.len-width.ensures, c.requires.narrow)) in
    let one = bit_small c.bit.result in
    let from = c.from.ensures ∙ byte_is c.bit.result in
    omega (arith, c.loop-k.invariant.digits)

pub loop-k-preserved : goal.loop-k-preserved
loop-k-preserved g c =
    let held = g.V.Bits.bits c.args.view.now in
    let from =
    c.from.ensures
    ∙ byte_is c.bit.result
    ∙ ap (λ b. cond b 1 0) (c.bit.ensures ∙ ap (λ i. get_or held i false) c.place_of-index.ensures.value) in
    let more = so_far_more c.args.rule c.len-width.result held c.loop-k.k (sym c.len-width.ensures) c.loop-k-test.true in
    let before = c.loop-k.invariant.digits in
    record {
      digits = omega arith;
      steps = omega (arith, c.loop-k.invariant.steps);
    }

pub overflow_cast-digits : goal.overflow_cast-digits
overflow_cast-digits g c =
    let held = g.V.Bits.bits c.args.view.now in
    let small =
    so_far_small c.args.rule c.len-width.result held c.loop-k.k (sym c.len-width.ensures) (omega arith)
    (omega (arith, c.len-width.ensures, c.requires.narrow)) in
    omega (arith, c.loop-k.invariant.digits)

pub returns-clause-value : goal.returns-clause-value
returns-clause-value g c =
    let held = g.V.Bits.bits c.args.view.now in
    let all : c.loop-k.k ≡ c.len-width.result = omega (arith, c.loop-k.auto.k-end) in
    to_z-of_z w128 c.number_of.result (record { sfits = c.number_of.type_inv })
    ∙ c.number_of.ensures
    ∙ ap₂ (number_from_digits c.args.signed) c.len-width.ensures
    (c.loop-k.invariant.digits ∙ so_far_all c.args.rule c.len-width.result held c.loop-k.k (sym c.len-width.ensures) all)

pub returns-clause-steps : goal.returns-clause-steps
returns-clause-steps g c =
    let held = g.V.Bits.bits c.args.view.now in
    let all : c.loop-k.taken ≡ length held =
    omega (arith, c.loop-k.auto.k-end, c.loop-k.invariant.steps, c.len-width.ensures) in
    rw all at c.many.ensures

use Rattle.std.proofs.Common.{◌≡◌, ◌+◌, ◌-◌, ◌/◌, ◌∙◌, ap, arith, count_by}
use Rattle.number_set.specs.Held.{words}
use Rattle.bit_containers.specs.View.{view_bits}
use Rattle.bit_containers.proofs.OnesLemmas.{ones-piece, last_left}
use Rattle.number_set.proofs.numbers.one_at.Goals as goal

pub loop-len-preserved-then-left-passed : goal.loop-len-preserved-then-left-passed
loop-len-preserved-then-left-passed c =
    let bits = view_bits words c.args.bits in
    let counted = c.count_ones-passed.ensures ∙ ap (λ xs. count_by (λ b. b) xs) c.part.ensures.bits in
    let more = ones-piece bits c.loop-len.from (c.loop-len.len / 2) in
    (omega arith, omega arith, omega (arith, counted, more, c.if-left-passed.true))

pub loop-len-preserved : goal.loop-len-preserved
loop-len-preserved c =
    let bits = view_bits words c.args.bits in
    let counted = c.count_ones-passed.ensures ∙ ap (λ xs. count_by (λ b. b) xs) c.part.ensures.bits in
    let more = ones-piece bits c.loop-len.from (c.loop-len.len / 2) in
    let whole : c.loop-len.from + c.loop-len.len / 2 + (c.loop-len.len - c.loop-len.len / 2)
    ≡ c.loop-len.from + c.loop-len.len = omega arith in
    (omega arith, omega (arith, counted, more, c.if-left-passed.false), rw whole c.loop-len.invariant.2)

pub returns-clause-one : goal.returns-clause-one
returns-clause-one c =
    (last_left (view_bits words c.args.bits) c.loop-len.from c.loop-len.len c.loop-len.left c.args.ones
    c.loop-len.invariant.0 c.loop-len-test.false c.loop-len.invariant.1 c.loop-len.invariant.2).0

pub returns-clause-before : goal.returns-clause-before
returns-clause-before c =
    (last_left (view_bits words c.args.bits) c.loop-len.from c.loop-len.len c.loop-len.left c.args.ones
    c.loop-len.invariant.0 c.loop-len-test.false c.loop-len.invariant.1 c.loop-len.invariant.2).1

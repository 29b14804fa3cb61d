use Rattle.std.proofs.Common.{◌≡◌, ◌+◌, not, length, count_by, arith, ◌∙◌}
use Rattle.bit_slice_words.proofs.OnesLemmas.{trues-falses}
use Rattle.bit_slice_tests.proofs.iter_callers.ones_from_both_ends.Goals as goal

pub loop-first-init : goal.loop-first-init
loop-first-init g c =
    let bits = g.V.Bits.bits c.args.view.now in
    let same : c.by_vals-bits.result ≡ bits = c.by_vals-bits.ensures ∙ c.iter.ensures.bits in
    let both : count_by (λ b. b) bits + count_by (λ b. not b) bits ≡ length bits = trues-falses bits in
    rw same (omega (arith, both, c.len-ones.ensures))

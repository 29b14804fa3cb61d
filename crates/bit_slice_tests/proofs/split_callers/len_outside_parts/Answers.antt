use Rattle.std.proofs.Common.{true≢false, ◌≡◌, ◌+◌, true, false, not}
use Rattle.std.proofs.Common.{length, count_by, rules, arith, ap, sym, ◌∙◌}
use Rattle.bit_addressing_memory.proofs.MemoryLemmas.{length-piece}
use Rattle.bit_slice_words.proofs.OnesLemmas.{trues-falses}
use Rattle.bit_slice_splits.specs.Ways.{from_front}
use Rattle.bit_slice_splits.proofs.CallerLemmas.{one_there, zeros_before}
use Rattle.bit_slice_tests.proofs.RunLemmas.{last_left, run_off}
use Rattle.bit_slice_tests.proofs.split_callers.len_outside_parts.Goals as goal

pub loop-part-init : goal.loop-part-init
loop-part-init g c =
    let bits = g.V.Bits.bits c.args.view.now in
    let same : c.split-parts.result.bits ≡ bits = c.split-parts.ensures.bits in
    let both : count_by (λ b. b) bits + count_by (λ b. not b) bits ≡ length bits = trues-falses bits in
    record {
      callable = search rules;
      counted = rw same (omega (arith, both, c.len-outside.ensures));
      ended = λ h. absurd (true≢false (sym h ∙ c.split-parts.ensures.done));
    }

-- the part has so many zeros, and each is counted
pub overflow_sub-outside : goal.overflow_sub-outside
overflow_sub-outside g c =
    let p = c.loop-part.parts in
    let took = c.in-Some.ensures.steps.parts in
    let m = took.asked in
    let zeros = run_off p.bits c.next.new.self.bits m took.within
    (zeros_before from_front g.F.FnMut p.bits p.callee m c.next.new.self.callee c.requires.answers took.asks)
    (one_there from_front g.F.FnMut p.bits p.callee m c.next.new.self.callee c.requires.answers took.asks)
    took.rest_is in
    let size : c.len-outside-in-Some.result ≡ m =
    c.len-outside-in-Some.ensures ∙ ap length took.part_is ∙ length-piece p.bits 0 m (omega (arith, took.within)) in
    omega (arith, size, zeros, c.loop-part.invariant.counted)

pub loop-part-preserved : goal.loop-part-preserved
loop-part-preserved g c =
    let p = c.loop-part.parts in
    let took = c.in-Some.ensures.steps.parts in
    let m = took.asked in
    let zeros = run_off p.bits c.next.new.self.bits m took.within
    (zeros_before from_front g.F.FnMut p.bits p.callee m c.next.new.self.callee c.requires.answers took.asks)
    (one_there from_front g.F.FnMut p.bits p.callee m c.next.new.self.callee c.requires.answers took.asks)
    took.rest_is in
    let size : c.len-outside-in-Some.result ≡ m =
    c.len-outside-in-Some.ensures ∙ ap length took.part_is ∙ length-piece p.bits 0 m (omega (arith, took.within)) in
    record {
      callable = search (rules, c.in-Some.ensures.goes);
      counted = omega (arith, size, zeros, c.loop-part.invariant.counted);
      ended = last_left p.bits c.next.new.self.bits m c.next.new.self.done took.within took.rest_is took.done_is;
    }

pub returns : goal.returns
returns g c =
    let none = c.loop-part.invariant.ended c.in_default.ensures.steps.0 in
    let counted = rw none at c.loop-part.invariant.counted in
    let bits = g.V.Bits.bits c.args.view.now in
    let is : c.loop-part.outside ≡ count_by (λ b. b) bits = omega (arith, counted) in
    is

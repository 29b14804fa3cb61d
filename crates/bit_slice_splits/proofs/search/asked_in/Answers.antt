use Rattle.std.proofs.Common.{◌≡◌, ◌<◌, length, arith, refl, get_or, false, ℕ, subst, ap, ◌∙◌}
use Rattle.std.specs.List.{FoldsTo, range_with_len}
use borrow.Author.Rules.{of_calls}
use Rattle.std.proofs.lemmas.Bool.{lt-ltb}
use Rattle.bit_slice_splits.specs.Ways.{Asked}
use Rattle.bit_slice_splits.proofs.AskLemmas.{asked_more, not_below}
use Rattle.bit_slice_splits.proofs.search.asked_in.Goals as goal

pub loop-k-init : goal.loop-k-init
loop-k-init g c = record { callable = search of_calls; before = refl }

pub loop-k-preserved : goal.loop-k-preserved
loop-k-preserved g c =
    let way = g.W.SplitEnd.way in
    let bits = g.V.Bits.bits c.args.view.now in
    let k = c.loop-k.k in
    let at : c.index-i.result ≡ way.index (length bits) k =
    c.index-i.ensures.index ∙ ap (λ n. way.index n k) c.len-len.ensures in
    record {
      callable = search of_calls;
      before = asked_more (λ p j q. Asked g.F.FnMut p (way.index (length bits) j)
          (get_or bits (way.index (length bits) j) false) false q) _ _ _ k c.loop-k.invariant.before
          (rw (← at) (_, c.bit-bit.ensures, c.if-f.ensures));
    }

pub returns-then-f-clause-asks : goal.returns-then-f-clause-asks
returns-then-f-clause-asks g c =
    let way = g.W.SplitEnd.way in
    let bits = g.V.Bits.bits c.args.view.now in
    let k = c.loop-k.k in
    let count : c.tries-tries.result ≡ way.tries (length bits) =
    c.tries-tries.ensures.count ∙ ap way.tries c.len-len.ensures in
    let low : k < way.tries (length bits) = omega (arith, c.loop-k-test.true, count) in
    let at : c.index-i.result ≡ way.index (length bits) k =
    c.index-i.ensures.index ∙ ap (λ n. way.index n k) c.len-len.ensures in
    record {
      mid = c.loop-k.f;
      before = c.loop-k.invariant.before;
      there = rw (lt-ltb k (way.tries (length bits)) low, ← at) (_, c.bit-bit.ensures, c.if-f.ensures);
    }

pub returns-clause-asks : goal.returns-clause-asks
returns-clause-asks g c =
    let way = g.W.SplitEnd.way in
    let bits = g.V.Bits.bits c.args.view.now in
    let count : c.tries-tries.result ≡ way.tries (length bits) =
    c.tries-tries.ensures.count ∙ ap way.tries c.len-len.ensures in
    let end : c.loop-k.k ≡ c.tries-tries.result = omega (arith, c.loop-k-test.false, c.loop-k.auto.k-end) in
    record {
      mid = c.loop-k.f;
      before = subst (λ (n : ℕ). FoldsTo (λ p j q. Asked g.F.FnMut p (way.index (length bits) j)
          (get_or bits (way.index (length bits) j) false) false q) c.args.f.now (range_with_len 0 n) c.loop-k.f) end
          c.loop-k.invariant.before;
      there = rw (not_below c.tries-tries.result (way.tries (length bits)) count) refl;
    }

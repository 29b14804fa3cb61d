use Rattle.std.proofs.Common.{◌≡◌, ◌<◌, ◌+◌, ◌++◌, ◌∷◌, [], Bool, true, false, length, get_or}
use Rattle.std.proofs.Common.{arith, refl, ap, ap₂, sym, ◌∙◌}
use Rattle.std.proofs.Common.{ℕ, drop, take, set}
use Rattle.std.proofs.Common.{of_calls, length-append}
use Rattle.std.proofs.iter.Next.{called}
use Rattle.bit_slice.specs.Ways.{Asked}
use Rattle.bit_containers.proofs.RetainLemmas.{answered, chosen_more, chosen_same, moved_front}
use Rattle.bit_containers.proofs.RetainLemmas.{moved_rest, not_yet_moved}
use Rattle.bit_containers.proofs.retain.gather.Goals.{then-keep, else-keep}
use Rattle.bit_containers.proofs.retain.gather.Goals as goal

pub loop-i-preserved : goal.loop-i-preserved
loop-i-preserved g c =
    let was = c.loop-i.invariant in
    let xs = g.V.Bits.bits c.args.bits.now in
    let ys = g.V.Bits.bits c.loop-i.bits in
    let bs = was.kept.0 in
    let low : length bs < length xs =
    omega (arith, was.kept.1, c.loop-i-test.true, c.len-i-end.ensures) in
    let there : c.bit-bit.result ≡ get_or xs (length bs) false =
    c.bit-bit.ensures
    ∙ not_yet_moved ys xs c.loop-i.kept c.loop-i.i was.most was.rest
    ∙ ap (λ i. get_or xs i false) (sym was.kept.1) in
    let more : (b : Bool) → length (bs ++ b ∷ []) ≡ c.loop-i.i + 1 =
    λ b. omega (arith, length-append bs (b ∷ []), was.kept.1) in
    let R : g.row.F.Denot × ℕ → Bool → Bool → g.row.F.Denot × ℕ → Type 0 =
    λ p bit answer q. Asked g.F.FnMut p.0 p.1 bit answer q.0 × (q.1 ≡ p.1 + 1) in
    elim c.if-keep.branch [
      | then-keep w ↦
          let now = g.V.Bits.bits w.set.new.self in
          let bit = c.bit-bit.result in
          let is : now ≡ set ys c.loop-i.kept bit = w.set.ensures.bits in
          rw (w.bits-is, w.kept-is) (record {
            callable = search of_calls;
            frame = w.set.ensures.frame ∙ was.frame;
            len = w.set.ensures.len ∙ was.len;
            most = omega (arith, was.most);
            rest =
                ap (drop (c.loop-i.kept + 1)) is
                ∙ moved_rest ys xs c.loop-i.kept bit was.rest;
            kept = (
              bs ++ true ∷ [],
              more true,
              ap (take (c.loop-i.kept + 1)) is
                  ∙ moved_front ys c.loop-i.kept bit (omega (arith, low, was.kept.1, was.most, was.len))
                  ∙ ap₂ (λ l b. l ++ b ∷ []) was.kept.2 there
                  ∙ sym (chosen_more bs xs low),
              answered R (c.args.keep, 0) (c.loop-i.keep, c.loop-i.i) (c.keep.new.self, c.loop-i.i + 1) bs xs true low
                  was.kept.3 ((_, there, called g.F.FnMut c.keep.ensures w.if-keep.true), refl),
            );
          })
      | else-keep w ↦ rw (w.bits-is, w.kept-is) (record {
        callable = search of_calls;
        frame = was.frame;
        len = was.len;
        most = omega (arith, was.most);
        rest = was.rest;
        kept = (
          bs ++ false ∷ [],
          more false,
          was.kept.2 ∙ sym (chosen_same bs xs),
          answered R (c.args.keep, 0) (c.loop-i.keep, c.loop-i.i) (c.keep.new.self, c.loop-i.i + 1) bs xs false low
              was.kept.3 ((_, there, called g.F.FnMut c.keep.ensures w.if-keep.false), refl),
        );
      })
    ]

pub returns-clause-kept : goal.returns-clause-kept
returns-clause-kept g c =
    let was = c.loop-i.invariant in
    let all : length was.kept.0 ≡ length (g.V.Bits.bits c.args.bits.now) =
    omega (arith, was.kept.1, c.loop-i-test.false, c.loop-i.auto.i-end, c.len-i-end.ensures) in
    (was.kept.0, _, all, was.kept.3, was.kept.2)

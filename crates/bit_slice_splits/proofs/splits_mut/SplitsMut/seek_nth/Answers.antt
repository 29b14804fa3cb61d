use Rattle.std.proofs.Common.{[], arith, refl}
use Rattle.bit_addressing_memory.specs.Memory.{read_by}
use Rattle.bit_slice_splits.specs.Takes.{parts_state, TakesPart}
use Rattle.bit_slice_splits.proofs.SeekLemmas.{fewer_on, found_nth, kept_on, none_nth, passed_more}
use Rattle.bit_slice_splits.proofs.splits_mut.SplitsMut.seek_nth.Goals as goal

pub loop-passed-init : goal.loop-passed-init
loop-passed-init g c = record {
  within = omega arith;
  callable = c.requires.callable;
  keeps = record { loan = refl; place_is = refl; len_is = refl; words_are = refl; lender_is = refl };
  lies = c.requires.lies;
  going = λ h. h;
  fewer = λ _. omega arith;
  passed = ([], refl, refl);
}

pub loop-passed-preserved : goal.loop-passed-preserved
loop-passed-preserved g c =
    let reading = read_by g.V.Store.BitRegister g.V.Order.Positions.position in
    let words = g.V.BitsMut.words in
    let p = c.args.self.now in
    let inv = c.loop-passed.invariant in
    let had = c.seek.ensures in
    let going = had.found.0 c.if-not-seek.false in
    let m = c.loop-passed.self in
    let q = c.seek.new.self in
    record {
      within = omega arith;
      callable = had.callable_still;
      keeps = kept_on g.V.BitsMut.lender words p m q inv.keeps had.keeps;
      lies = had.lies_still;
      going = λ _. inv.going going;
      fewer = fewer_on p.count m.count q.count q.done (inv.fewer going) (had.shorter c.if-not-seek.false);
      passed = passed_more (TakesPart reading (words p.of.now) g.W.SplitEnd.way g.F.FnMut) (parts_state p)
          (parts_state m) (parts_state q) c.loop-passed.passed c.seek.result _ inv.passed c.if-not-seek.false
          (rw inv.keeps.words_are at had.parts);
    }

pub returns-then-not-seek-clause-parts : goal.returns-then-not-seek-clause-parts
returns-then-not-seek-clause-parts g c =
    let reading = read_by g.V.Store.BitRegister g.V.Order.Positions.position in
    let words = g.V.BitsMut.words in
    let p = c.args.self.now in
    let inv = c.loop-passed.invariant in
    none_nth (TakesPart reading (words p.of.now) g.W.SplitEnd.way g.F.FnMut) (parts_state p)
    (parts_state c.loop-passed.self) (parts_state c.seek.new.self) c.loop-passed.passed c.args.k c.seek.result _
    inv.passed c.if-not-seek.true (rw inv.keeps.words_are at c.seek.ensures.parts) inv.within

pub returns-clause-parts : goal.returns-clause-parts
returns-clause-parts g c =
    let reading = read_by g.V.Store.BitRegister g.V.Order.Positions.position in
    let words = g.V.BitsMut.words in
    let p = c.args.self.now in
    let inv = c.loop-passed.invariant in
    found_nth (TakesPart reading (words p.of.now) g.W.SplitEnd.way g.F.FnMut) (parts_state p)
    (parts_state c.loop-passed.self) (parts_state c.seek-2.new.self) c.loop-passed.passed c.args.k
    c.seek-2.result _ inv.passed (rw inv.keeps.words_are at c.seek-2.ensures.parts)
    (omega (arith, inv.within, c.loop-passed-test.false))

use Rattle.std.proofs.Common.{◌≡◌, ◌-◌, ◌≤◌, false}
use denote.Param.Always.{always_mut}
use Rattle.bit_addressing_memory.specs.Memory.{read_by}
use Rattle.bit_slice_splits.specs.SplitsMut.{KeepsWindow, LiesIn}
use Rattle.bit_slice_splits.specs.Takes.{parts_state, TakesPart}
use Rattle.bit_slice_splits.proofs.SeekLemmas.{Passed}
use Rattle.bit_slice_splits.proofs.splits_mut.SplitsMut.seek_nth.Given as goal

abbrev pub invariant-loop-passed : goal.invariant-loop-passed
invariant-loop-passed g l = record {
  within : l.passed ≤ l.k;
  callable : always_mut g.F.FnMut l.self.f;
  keeps : KeepsWindow g.V.BitsMut.lender g.V.BitsMut.words l.initial.self l.self;
  lies : LiesIn g.V.Store.BitRegister.BITS g.V.BitsMut.words l.self;
  going : l.self.done ≡ false → l.initial.self.done ≡ false;
  fewer : l.self.done ≡ false → l.self.count ≤ l.initial.self.count;
  passed : Passed (TakesPart (read_by g.V.Store.BitRegister g.V.Order.Positions.position)
      (g.V.BitsMut.words l.initial.self.of.now) g.W.SplitEnd.way g.F.FnMut)
      (parts_state l.initial.self) l.passed (parts_state l.self);
}

abbrev pub decreases-loop-passed : goal.decreases-loop-passed
decreases-loop-passed g l = l.k - l.passed

use Rattle.std.proofs.Common.{◌≡◌, ◌+◌, cond}
use denote.Param.Always.{always_mut}
use Rattle.bit_slice_splits.specs.SplitsMut.{LiesIn}
use Rattle.bit_slice_tests.proofs.splits_mut.fills.Given as goal

abbrev pub invariant-loop-part : goal.invariant-loop-part
invariant-loop-part g l = record {
  callable : always_mut g.F.FnMut l.parts.f;
  lies : LiesIn g.V.Store.BitRegister.BITS g.V.BitsMut.words l.parts;
}

abbrev pub decreases-loop-part : goal.decreases-loop-part
decreases-loop-part g l = cond l.parts.done 0 (l.parts.count + 1)

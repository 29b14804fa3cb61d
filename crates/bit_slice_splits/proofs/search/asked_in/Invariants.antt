use Rattle.std.proofs.Common.{get_or, length, false}
use denote.Param.Always.{always_mut}
use Rattle.std.specs.List.{FoldsTo, range_with_len}
use Rattle.bit_slice_splits.specs.Ways.{Asked}
use Rattle.bit_slice_splits.proofs.search.asked_in.Given as goal

abbrev pub invariant-loop-k : goal.invariant-loop-k
invariant-loop-k g l = record {
  callable : always_mut g.F.FnMut l.f;
  before : FoldsTo (λ p k q. Asked g.F.FnMut p (g.W.SplitEnd.way.index (length (g.V.Bits.bits l.view)) k)
      (get_or (g.V.Bits.bits l.view) (g.W.SplitEnd.way.index (length (g.V.Bits.bits l.view)) k) false) false q) l.initial.f
      (range_with_len 0 l.k) l.f;
}

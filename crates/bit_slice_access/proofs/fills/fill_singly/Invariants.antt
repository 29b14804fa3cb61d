use Rattle.std.proofs.Common.{length, ◌≡◌, take}
use Rattle.bit_slice_access.specs.Fills.{Filled}
use Rattle.bit_slice_access.proofs.fills.fill_singly.Given as goal

abbrev pub invariant-loop-i : goal.invariant-loop-i
invariant-loop-i g l = record {
  frame : g.V.BitsMut.frame l.view ≡ g.V.BitsMut.frame l.fn.view;
  len : length (g.V.Bits.bits l.view) ≡ length (g.V.Bits.bits l.fn.view);
  callable : goal.F-IsAlwaysCallable g l.f;
  filled : Filled (goal.F-step g) l.fn.f (take l.i (g.V.Bits.bits l.view)) l.f;
}

use Rattle.std.proofs.Common.{length, ◌≡◌, ◌≤◌, ℕ, get_or, false, take}
use Rattle.bit_slice_access.specs.Fills.{Filled}
use Rattle.bit_slice_access.proofs.fills.each_singly.Given as goal

abbrev pub invariant-loop-i : goal.invariant-loop-i
invariant-loop-i g l = record {
  frame : g.V.BitsMut.frame l.view ≡ g.V.BitsMut.frame l.fn.view;
  len : length (g.V.Bits.bits l.view) ≡ length (g.V.Bits.bits l.fn.view);
  callable : goal.F-IsAlwaysCallable g l.f;
  rest : (k : ℕ) → l.i ≤ k → get_or (g.V.Bits.bits l.view) k false ≡ get_or (g.V.Bits.bits l.fn.view) k false;
  filled : Filled (λ p k bit q. goal.F-step g p k (get_or (g.V.Bits.bits l.fn.view) k false) bit q) l.fn.f
      (take l.i (g.V.Bits.bits l.view)) l.f;
}

use Rattle.std.proofs.Common.{length, ◌≡◌, ◌*◌, ◌<◌, ◌≤◌, ℕ, get_or, false}
use Rattle.bit_slice_access.proofs.copies.swap_by_chunks.Given as goal

abbrev pub invariant-loop-k : goal.invariant-loop-k
invariant-loop-k g l = record {
  held : length l.held ≡ 16;
  frame : g.V.BitsMut.frame l.view ≡ g.V.BitsMut.frame l.fn.view;
  len : length (g.V.Bits.bits l.view) ≡ length (g.V.Bits.bits l.fn.view);
  below : (k : ℕ) → k < 1024 * l.k
      → get_or (g.V.Bits.bits l.view) k false ≡ get_or (g.W.Bits.bits l.fn.other) k false;
  above : (k : ℕ) → 1024 * l.k ≤ k
      → get_or (g.V.Bits.bits l.view) k false ≡ get_or (g.V.Bits.bits l.fn.view) k false;
  other_frame : g.W.BitsMut.frame l.other ≡ g.W.BitsMut.frame l.fn.other;
  other_len : length (g.W.Bits.bits l.other) ≡ length (g.W.Bits.bits l.fn.other);
  other_below : (k : ℕ) → k < 1024 * l.k
      → get_or (g.W.Bits.bits l.other) k false ≡ get_or (g.V.Bits.bits l.fn.view) k false;
  other_above : (k : ℕ) → 1024 * l.k ≤ k
      → get_or (g.W.Bits.bits l.other) k false ≡ get_or (g.W.Bits.bits l.fn.other) k false;
}

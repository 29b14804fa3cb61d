use Rattle.std.proofs.Common.{[], ◌∷◌, length, ◌≡◌, ◌+◌, ◌*◌, ◌≤◌, ℕ, min, take, get_or, false}
use Rattle.bit_addressing_memory.specs.Memory.{memory, piece, read_by, with_piece}
use Rattle.bit_slice_access.specs.Fills.{Filled}
use Rattle.bit_slice_access.proofs.fills.each_held.Given as goal

abbrev pub invariant-loop-k : goal.invariant-loop-k
invariant-loop-k g l = record {
  room : length l.was ≡ length l.fn.was;
  frame : g.V.BitsMut.frame l.view ≡ g.V.BitsMut.frame l.fn.view;
  len : length (g.V.Bits.bits l.view) ≡ length (g.V.Bits.bits l.fn.view);
  callable : goal.F-IsAlwaysCallable g l.f;
  rest : (i : ℕ) → 64 * l.k ≤ i → get_or (g.V.Bits.bits l.view) i false ≡ get_or (g.V.Bits.bits l.fn.view) i false;
  filled : Filled (λ p i bit q. goal.F-step g p i (get_or (g.V.Bits.bits l.fn.view) i false) bit q) l.fn.f
      (take (min l.len (64 * l.k)) (g.V.Bits.bits l.view)) l.f;
}

-- the part so far, written over the window's bits
abbrev pub invariant-loop-j : goal.invariant-loop-j
invariant-loop-j g l =
    let part = piece (memory (read_by g.R.BitRegister g.O.Positions.position) (l.now ∷ [])) 0 l.count in
    record {
      callable : goal.F-IsAlwaysCallable g l.f;
      filled : Filled (λ p i bit q. goal.F-step g p i (get_or (g.V.Bits.bits l.fn.view) i false) bit q) l.fn.f
          (take (l.at + l.j) (with_piece (g.V.Bits.bits l.view) l.at part)) l.f;
    }

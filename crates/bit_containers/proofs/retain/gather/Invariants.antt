use Rattle.std.proofs.Common.{◌≡◌, ℕ, ◌≤◌, ◌+◌, List, Bool, length, take, drop}
use Rattle.std.specs.List.{items_where_true}
use Rattle.std.specs.List.Retain.{ReturnsInTurn}
use Rattle.bit_slice.specs.Ways.{Asked}
use Rattle.bit_containers.proofs.retain.gather.Given as goal

abbrev pub invariant-loop-i : goal.invariant-loop-i
invariant-loop-i g l =
    let xs = g.V.Bits.bits l.initial.bits in
    let ys = g.V.Bits.bits l.bits in record {
      callable : goal.F-IsAlwaysCallable g l.keep;
      frame : g.V.BitsMut.frame l.bits ≡ g.V.BitsMut.frame l.initial.bits;
      len : length ys ≡ length xs;
      most : l.kept ≤ l.i;
      rest : drop l.kept ys ≡ drop l.kept xs;
      kept : (bs : List Bool) × (length bs ≡ l.i) × (take l.kept ys ≡ items_where_true bs xs)
          × ReturnsInTurn {P = g.row.F.Denot × ℕ}
          (λ p bit answer q. Asked g.F.FnMut p.0 p.1 bit answer q.0 × (q.1 ≡ p.1 + 1)) (l.initial.keep, 0) bs xs
          (l.keep, l.i);
    }

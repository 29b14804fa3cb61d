use Rattle.std.proofs.Common.{◌≡◌, ℕ, ◌<◌, ◌≤◌, false, get_or}
use Rattle.bit_addressing_memory.specs.Memory.{read_by}
use Rattle.bit_slice_views.specs.View.{view_bits}
use Rattle.bit_table_rows.proofs.keep.stay_upto.Given as goal

abbrev pub invariant-loop-i : goal.invariant-loop-i
invariant-loop-i g l =
    (j : ℕ) → l.k ≤ j → j < l.i
    → get_or (view_bits (read_by g.T.BitRegister g.O.Positions.position) l.off) j false ≡ false

use Rattle.std.proofs.Common.{◌-◌, ◌≤◌, length}
use Rattle.bit_addressing_memory.specs.Memory.{read_by}
use Rattle.bit_slice_views.specs.View.{view_bits}
use Rattle.bit_slice_fields.specs.Digits.{cut_weight, Gathered}
use Rattle.bit_slice_fields.proofs.digits.gathered_by_pieces.Given as goal

abbrev pub invariant-loop-from : goal.invariant-loop-from
invariant-loop-from g l =
    let shown = view_bits (read_by g.T.BitRegister g.O.Positions.position) l.view in
    record {
      digits : Gathered (cut_weight l.cut g.T.BitRegister.BITS (length shown)) shown l.from l.digits;
      upto : l.from ≤ l.len;
    }

abbrev pub decreases-loop-from : goal.decreases-loop-from
decreases-loop-from g l = l.len - l.from

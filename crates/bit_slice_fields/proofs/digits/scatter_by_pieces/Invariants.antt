use Rattle.std.proofs.Common.{◌-◌, ◌≤◌}
use Rattle.bit_addressing_memory.specs.Bits.{digit_at}
use Rattle.bit_addressing_memory.specs.Memory.{read_by, Overwrites}
use Rattle.bit_slice_fields.specs.Digits.{cut_weight}
use Rattle.bit_slice_fields.proofs.digits.scatter_by_pieces.Given as goal

abbrev pub invariant-loop-from : goal.invariant-loop-from
invariant-loop-from g l = record {
  written : Overwrites (read_by g.T.BitRegister g.O.Positions.position) l.fn.words l.words l.place l.from
      (λ k. digit_at l.digits (cut_weight l.cut g.T.BitRegister.BITS l.len k));
  upto : l.from ≤ l.len;
}

abbrev pub decreases-loop-from : goal.decreases-loop-from
decreases-loop-from g l = l.len - l.from

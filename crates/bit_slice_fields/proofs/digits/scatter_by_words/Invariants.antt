use Rattle.std.proofs.Common.{◌≡◌, ◌+◌, ◌-◌, ◌*◌, ◌<◌, ◌≤◌}
use Rattle.bit_addressing_memory.specs.Bits.{digit_at}
use Rattle.bit_addressing_memory.specs.Memory.{read_by, Overwrites}
use Rattle.bit_slice_fields.specs.Digits.{cut_weight}
use Rattle.bit_slice_fields.proofs.digits.scatter_by_words.Given as goal

abbrev pub invariant-loop-from : goal.invariant-loop-from
invariant-loop-from g l = record {
  written : Overwrites (read_by g.T.BitRegister g.O.Positions.position) l.fn.words l.words l.place l.from
      (λ k. digit_at l.digits (cut_weight l.cut g.T.BitRegister.BITS l.n k));
  place : l.at * g.T.BitRegister.BITS ≡ l.place + l.from;
  some : 0 < l.from;
  few : l.at ≤ l.word + l.from;
  upto : l.from ≤ l.n;
}

abbrev pub decreases-loop-from : goal.decreases-loop-from
decreases-loop-from g l = l.n - l.from

use Rattle.std.proofs.Common.{◌≡◌, ◌+◌, ◌-◌, ◌*◌, ◌<◌, ◌≤◌}
use Rattle.bit_addressing_memory.specs.Memory.{memory, piece, read_by}
use Rattle.bit_slice_fields.specs.Digits.{cut_weight, Gathered}
use Rattle.bit_slice_fields.proofs.digits.gathered_by_words.Given as goal

abbrev pub invariant-loop-from : goal.invariant-loop-from
invariant-loop-from g l =
    let shown = piece (memory (read_by g.T.BitRegister g.O.Positions.position) l.words) l.cut.head l.n in
    record {
      digits : Gathered (cut_weight l.cut g.T.BitRegister.BITS l.n) shown l.from l.digits;
      place : l.word * g.T.BitRegister.BITS ≡ l.cut.head + l.from;
      some : 0 < l.from;
      few : l.word ≤ l.from;
      upto : l.from ≤ l.n;
    }

abbrev pub decreases-loop-from : goal.decreases-loop-from
decreases-loop-from g l = l.n - l.from

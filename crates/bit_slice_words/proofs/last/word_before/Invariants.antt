use Rattle.bit_addressing_memory.proofs.Common.{◌+◌, ◌-◌, ◌*◌, ◌<◌, ◌≤◌, read_by}
use Rattle.bit_slice_words.specs.Stretch.{bit_found, Nowhere}
use Rattle.bit_slice_words.proofs.last.word_before.Given as goal

abbrev pub invariant-loop-k : goal.invariant-loop-k
invariant-loop-k g l =
    let b = g.R.BitRegister.BITS in
    record {
      least : l.first ≤ l.k;
      most : l.k < l.upto;
      none : Nowhere (bit_found (read_by g.R.BitRegister g.O.Positions.position) l.words l.bit) ((l.k + 1) * b)
          (l.upto * b);
    }

abbrev pub decreases-loop-k : goal.decreases-loop-k
decreases-loop-k g l = l.k - l.first

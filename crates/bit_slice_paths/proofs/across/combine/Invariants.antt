use Rattle.bit_addressing_memory.proofs.Common.{◌≡◌, ◌+◌, ◌*◌, read_by}
use Rattle.bit_slice_chunks.specs.Combined.{combined_bit, Combines}
use Rattle.bit_slice_paths.proofs.across.combine.Given as goal

abbrev pub invariant-loop-k : goal.invariant-loop-k
invariant-loop-k g l = record {
  count : l.done ≡ l.before + 64 * l._k;
  combined : Combines (read_by g.R.BitRegister g.O.Positions.position) l.fn.words l.words l.place l.done
      (combined_bit g.H.Combining.HOW) (read_by g.Q.BitRegister g.P.Positions.position) l.others l.other_place;
}

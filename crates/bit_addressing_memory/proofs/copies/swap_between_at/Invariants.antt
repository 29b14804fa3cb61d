use Rattle.bit_addressing_memory.specs.Memory.{read_by, Copies}
use Rattle.bit_addressing_memory.specs.Place.{place_of}
use Rattle.bit_addressing_memory.proofs.copies.swap_between_at.Given as goal

abbrev pub invariant-loop-k : goal.invariant-loop-k
invariant-loop-k g l = record {
  to_words :
      Copies (read_by g.R.BitRegister g.O.Positions.position) l.fn.words l.words
      (read_by g.Q.BitRegister g.P.Positions.position) l.fn.others
      (place_of g.Q.BitRegister.BITS l.second) (place_of g.R.BitRegister.BITS l.first) l.k;
  to_others :
      Copies (read_by g.Q.BitRegister g.P.Positions.position) l.fn.others l.others
      (read_by g.R.BitRegister g.O.Positions.position) l.fn.words
      (place_of g.R.BitRegister.BITS l.first) (place_of g.Q.BitRegister.BITS l.second) l.k;
}

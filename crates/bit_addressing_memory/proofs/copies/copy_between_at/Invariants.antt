use Rattle.bit_addressing_memory.specs.Memory.{read_by, Copies}
use Rattle.bit_addressing_memory.specs.Place.{place_of}
use Rattle.bit_addressing_memory.proofs.copies.copy_between_at.Given as goal

abbrev pub invariant-loop-k : goal.invariant-loop-k
invariant-loop-k g l =
    Copies (read_by g.R.BitRegister g.O.Positions.position) l.fn.words l.words
    (read_by g.Q.BitRegister g.P.Positions.position) l.from
    (place_of g.Q.BitRegister.BITS l.source) (place_of g.R.BitRegister.BITS l.target) l.k

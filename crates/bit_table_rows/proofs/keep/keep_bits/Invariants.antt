use Rattle.bit_addressing_memory.specs.Memory.{memory, piece, read_by}
use Rattle.bit_addressing_memory.specs.Sweep.{sweep_words}
use Rattle.bit_table_rows.specs.KeepSteps.{Fills}
use Rattle.bit_table_rows.proofs.keep.keep_bits.Given as goal

abbrev pub invariant-bits : goal.invariant-bits
invariant-bits g l =
    let reading = read_by g.T.BitRegister g.O.Positions.position in
    Fills reading l.fn.sweep l.sweep l.fn.word l.next l.first l.to
    (piece (memory reading (sweep_words l.fn.sweep)) l.from l.i)

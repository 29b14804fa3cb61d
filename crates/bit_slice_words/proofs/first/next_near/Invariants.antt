use Rattle.bit_addressing_memory.proofs.Common.{◌+◌, ◌*◌, read_by}
use Rattle.bit_slice_words.specs.Stretch.{bit_found, Nowhere}
use Rattle.bit_slice_words.proofs.first.next_near.Given as goal

abbrev pub invariant-loop-i : goal.invariant-loop-i
invariant-loop-i g l =
    let b = g.R.BitRegister.BITS in
    Nowhere (bit_found (read_by g.R.BitRegister g.O.Positions.position) l.words l.bit) (l.from * b) ((l.from + l.i) * b)

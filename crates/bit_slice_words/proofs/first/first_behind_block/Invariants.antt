use Rattle.bit_addressing_memory.proofs.Common.{◌+◌, ◌*◌, read_by}
use Rattle.bit_slice_words.specs.Stretch.{bit_found, Nowhere}
use Rattle.bit_slice_words.proofs.first.first_behind_block.Given as goal

abbrev pub invariant-loop-k : goal.invariant-loop-k
invariant-loop-k g l =
    let found = bit_found (read_by g.R.BitRegister g.O.Positions.position) l.words l.bit in
    Nowhere found l.place (l.place + (l.done + 64 * l.k))

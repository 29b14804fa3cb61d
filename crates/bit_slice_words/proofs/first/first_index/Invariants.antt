use Rattle.bit_addressing_memory.specs.Memory.{indexed}
use Rattle.bit_slice_words.specs.Found.{is_bit}
use Rattle.bit_slice_words.specs.Stretch.{Nowhere}
use Rattle.bit_slice_words.proofs.first.first_index.Given as goal

abbrev pub invariant-loop-i : goal.invariant-loop-i
invariant-loop-i g l =
    Nowhere (λ i. is_bit l.bit (indexed g.R.BitRegister.number g.O.Positions.position l.word i)) l.from l.i

use Rattle.bit_addressing_memory.proofs.Common.{◌-◌, ◌≤◌, indexed}
use Rattle.bit_slice_words.specs.Found.{is_bit}
use Rattle.bit_slice_words.specs.Stretch.{Nowhere}
use Rattle.bit_slice_words.proofs.last.last_index.Given as goal

abbrev pub invariant-loop-k : goal.invariant-loop-k
invariant-loop-k g l = record {
  most : l.k ≤ l.upto;
  none : Nowhere (λ i. is_bit l.bit (indexed g.R.BitRegister.number g.O.Positions.position l.word i)) l.k l.upto;
}

abbrev pub decreases-loop-k : goal.decreases-loop-k
decreases-loop-k g l = l.k - l.from

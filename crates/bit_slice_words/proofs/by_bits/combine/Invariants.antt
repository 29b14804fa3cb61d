use Rattle.bit_addressing_memory.specs.Memory.{read_by}
use Rattle.bit_slice_paths.specs.Combined.{combined_bit, Combines}
use Rattle.bit_slice_paths.specs.Steps.{Takes}
use Rattle.bit_slice_words.proofs.by_bits.combine.Given as goal

abbrev pub invariant-loop-k : goal.invariant-loop-k
invariant-loop-k g l =
    let reading = read_by g.R.BitRegister g.O.Positions.position in
    record {
      combined : Combines reading l.fn.words l.words l.place l.k (combined_bit g.H.Combining.HOW) reading l.others l.other_place;
      steps : Takes l.fn.steps l.steps l.k l.k;
    }

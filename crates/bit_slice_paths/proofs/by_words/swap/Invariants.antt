use Rattle.bit_addressing_memory.proofs.Common.{◌*◌, read_by, Copies}
use Rattle.bit_slice_paths.specs.Steps.{Takes}
use Rattle.bit_slice_paths.proofs.by_words.swap.Given as goal

abbrev pub invariant-loop-k : goal.invariant-loop-k
invariant-loop-k g l =
    let reading = read_by g.R.BitRegister g.O.Positions.position in
    record {
      to_words : Copies reading l.fn.words l.words reading l.fn.others l.other_place l.place (64 * l.k);
      to_others : Copies reading l.fn.others l.others reading l.fn.words l.place l.other_place (64 * l.k);
      steps : Takes l.fn.steps l.counted l.k l.k;
    }

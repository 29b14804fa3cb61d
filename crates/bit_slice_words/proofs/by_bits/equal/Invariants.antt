use Rattle.bit_addressing_memory.proofs.Common.{◌≡◌, ℕ, ◌+◌, ◌<◌, entry, read_by}
use Rattle.bit_slice_paths.specs.Steps.{Takes}
use Rattle.bit_slice_words.proofs.by_bits.equal.Given as goal

abbrev pub invariant-loop-k : goal.invariant-loop-k
invariant-loop-k g l =
    let reading = read_by g.R.BitRegister g.O.Positions.position in
    record {
      same : (k : ℕ) → k < l.k → entry reading l.words (l.place + k) ≡ entry reading l.others (l.other_place + k);
      steps : Takes l.fn.steps l.steps l.k l.k;
    }

use Rattle.bit_addressing_memory.specs.Memory.{read_by}
use Rattle.bit_slice_paths.specs.Combined.{combined_bit}
use Rattle.bit_slice_paths.proofs.StepLemmas.{takes_more}
use Rattle.bit_slice_words.proofs.ChangedStretchLemmas.{combines_more}
use Rattle.bit_slice_words.proofs.by_bits.combine.Goals as goal

pub loop-k-preserved : goal.loop-k-preserved
loop-k-preserved g c =
    let reading = read_by g.R.BitRegister g.O.Positions.position in
    let k = c.loop-k.k in
    record {
      combined =
          combines_more reading c.args.words.now c.loop-k.words c.write_entry.new.words c.args.place k
          (combined_bit g.H.Combining.HOW) reading c.args.others.now c.args.other_place c.read_entry-bit.result
          c.read_entry-other.result c.combined.result c.read_entry-bit.ensures.value c.read_entry-other.ensures.value
          (rw c.HOW.ensures at c.combined.ensures) c.loop-k.invariant.combined c.write_entry.ensures.written;
      steps = takes_more _ _ _ k c.step.ensures c.loop-k.invariant.steps;
    }

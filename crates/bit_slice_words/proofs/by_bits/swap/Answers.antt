use Rattle.bit_addressing_memory.proofs.Common.{◌+◌, refl, ◌∙◌, arith, read_by}
use Rattle.bit_addressing_memory.proofs.CopyLemmas.{copies_more}
use Rattle.bit_slice_paths.proofs.StepLemmas.{takes_more}
use Rattle.bit_slice_words.proofs.by_bits.swap.Goals as goal

pub loop-k-preserved : goal.loop-k-preserved
loop-k-preserved g c =
    let reading = read_by g.R.BitRegister g.O.Positions.position in
    let k = c.loop-k.k in
    let here = c.args.place + k in
    let there = c.args.other_place + k in
    let mine = c.loop-k.invariant.to_words in
    let its = c.loop-k.invariant.to_others in
    record {
      to_words =
          copies_more reading c.args.words.now c.loop-k.words c.write_entry.new.words reading c.args.others.now
          c.args.other_place c.args.place k here c.read_entry-other.result refl
          (c.read_entry-other.ensures.value ∙ its.above there (omega arith)) mine c.write_entry.ensures.written;
      to_others =
          copies_more reading c.args.others.now c.loop-k.others c.write_entry-in-loop-k.new.words reading
          c.args.words.now c.args.place c.args.other_place k there c.read_entry-bit.result refl
          (c.read_entry-bit.ensures.value ∙ mine.above here (omega arith)) its
          c.write_entry-in-loop-k.ensures.written;
      steps = takes_more _ _ _ k c.step.ensures c.loop-k.invariant.steps;
    }

use Rattle.bit_addressing_memory.proofs.Common.{ap, ◌∙◌, ◌+◌, arith, entry, read_by}
use Rattle.bit_addressing_memory.proofs.CopyLemmas.{copies_more}
use Rattle.bit_addressing_memory.specs.Place.{place_of}
use Rattle.bit_addressing_memory.proofs.copies.swap_between_at.Goals as goal

pub loop-k-preserved : goal.loop-k-preserved
loop-k-preserved g c =
    let reading = read_by g.R.BitRegister g.O.Positions.position in
    let its = read_by g.Q.BitRegister g.P.Positions.position in
    let first = place_of reading.bits c.args.first in
    let second = place_of its.bits c.args.second in
    let k = c.loop-k.k in
    let here = c.loop-k.invariant.to_words.above (first + k) (omega arith) in
    let there = c.loop-k.invariant.to_others.above (second + k) (omega arith) in
    let bit = c.read_at-bit.ensures.value ∙ ap (entry reading c.loop-k.words) c.after-here.ensures ∙ here in
    let other = c.read_at-other.ensures.value ∙ ap (entry its c.loop-k.others) c.after-there.ensures ∙ there in
    record {
      to_words =
          copies_more reading c.args.words.now c.loop-k.words c.write_at.new.words its c.args.others.now second first
          k _ _ c.after-here.ensures other c.loop-k.invariant.to_words c.write_at.ensures.written;
      to_others =
          copies_more its c.args.others.now c.loop-k.others c.write_at-in-loop-k.new.words reading c.args.words.now
          first second k _ _ c.after-there.ensures bit c.loop-k.invariant.to_others
          c.write_at-in-loop-k.ensures.written;
    }

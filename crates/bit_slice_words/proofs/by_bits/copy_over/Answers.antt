use Rattle.bit_addressing_memory.proofs.Common.{◌+◌, ◌-◌, ◌<◌, ◌≤◌, refl, ◌∙◌, arith, read_by}
use Rattle.bit_addressing_memory.proofs.CopyLemmas.{copies_more_down, not_yet_down}
use Rattle.bit_slice_words.proofs.PathLemmas.{takes_more_down}
use Rattle.bit_slice_words.proofs.by_bits.copy_over.Goals as goal

pub down-preserved : goal.down-preserved
down-preserved g c =
    let reading = read_by g.R.BitRegister g.O.Positions.position in
    let k = c.down.k in
    let had = c.down.invariant.copied in
    let some : 0 < k = omega arith in
    let inside : k ≤ c.args.len = omega arith in
    let order : c.args.source ≤ c.args.target = omega arith in
    let still =
    not_yet_down reading c.args.words.now c.down.words c.args.source c.args.target c.args.len k some order had in
    record {
      copied =
          copies_more_down reading c.args.words.now c.down.words c.write_entry-in-down.new.words c.args.source
          c.args.target c.args.len k (c.args.target + (k - 1)) c.read_entry-bit-in-down.result some inside refl
          (c.read_entry-bit-in-down.ensures.value ∙ still) had c.write_entry-in-down.ensures.written;
      steps = takes_more_down _ _ _ c.args.len k some inside c.step-in-down.ensures c.down.invariant.steps;
    }

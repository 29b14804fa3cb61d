use Rattle.std.proofs.Common.{rules, of_calls}
use Rattle.bit_slice_access.proofs.FillLemmas.{filled_step}
use Rattle.bit_slice_access.proofs.fills.fill_singly.Goals as goal

pub loop-i-preserved : goal.loop-i-preserved
loop-i-preserved g c = record {
  frame = search rules;
  len = search rules;
  callable = search (rules, of_calls);
  filled = rw c.set.ensures.bits (filled_step _ _ _ _ _ _ _ c.loop-i.invariant.filled (search rules) (search rules));
}

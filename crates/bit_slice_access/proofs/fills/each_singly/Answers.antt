use Rattle.std.proofs.Common.{rules, of_calls}
use Rattle.bit_slice_access.proofs.FillLemmas.{filled_step, filled_whole}
use Rattle.bit_slice_access.proofs.fills.each_singly.Goals as goal

pub loop-i-preserved : goal.loop-i-preserved
loop-i-preserved g c = record {
  frame = search rules;
  len = search rules;
  rest = search rules;
  callable = search (rules, of_calls);
  filled = rw c.set.ensures.bits (filled_step _ _ _ _ _ _ _ c.loop-i.invariant.filled (search rules) (search rules));
}

pub returns-clause-bits : goal.returns-clause-bits
returns-clause-bits g c = (c.loop-i.f, filled_whole _ _ _ _ _ c.loop-i.invariant.filled (search rules))

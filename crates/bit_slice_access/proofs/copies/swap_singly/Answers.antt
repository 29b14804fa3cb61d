use Rattle.std.proofs.Common.{rules, ◌∙◌, arith}
use Rattle.bit_slice_access.proofs.SwapLemmas.{changed_below, changed_above, changed_all}
use Rattle.bit_slice_access.proofs.copies.swap_singly.Goals as goal

pub loop-i-preserved : goal.loop-i-preserved
loop-i-preserved g c =
    record {
      frame = search rules;
      len = search rules;
      below = rw c.set.ensures.bits (changed_below _ _ _ _ (search rules)
          (c.replace-bit.ensures.was ∙ c.loop-i.invariant.other_above _ (omega arith)) c.loop-i.invariant.below);
      above = rw c.set.ensures.bits (changed_above _ _ _ _ c.loop-i.invariant.above);
      other_frame = search rules;
      other_len = search rules;
      other_below = rw c.replace-bit.ensures.bits (changed_below _ _ _ _ (search rules)
          (c.bit-was.ensures ∙ c.loop-i.invariant.above _ (omega arith)) c.loop-i.invariant.other_below);
      other_above = rw c.replace-bit.ensures.bits (changed_above _ _ _ _ c.loop-i.invariant.other_above);
    }

pub returns-clause-bits : goal.returns-clause-bits
returns-clause-bits g c = changed_all _ _ _ (omega arith) (omega arith) c.loop-i.invariant.below

pub returns-clause-other_bits : goal.returns-clause-other_bits
returns-clause-other_bits g c = changed_all _ _ _ (omega arith) (omega arith) c.loop-i.invariant.other_below

use Rattle.std.proofs.Common.{◌≡◌, ◌+◌, ◌-◌, ◌*◌, ◌/◌, rules, arith}
use Rattle.bit_slice_access.proofs.SwapLemmas.{part_below, part_above, changed_all}
use Rattle.bit_slice_access.proofs.copies.swap_by_chunks.Goals as goal

pub loop-k-preserved : goal.loop-k-preserved
loop-k-preserved g c =
    let next : 1024 * (c.loop-k.k + 1) ≡ 1024 * c.loop-k.k + 1024 = omega arith in
    let had = c.loop-k.invariant in
    record {
      held = search rules;
      frame = search rules;
      len = search rules;
      below = rw (next, c.swap_held.ensures.bits)
          (part_below _ _ _ _ 1024 (omega arith) (omega arith) had.other_above had.below);
      above = rw (next, c.swap_held.ensures.bits) (part_above _ _ _ _ 1024 (omega arith) (omega arith) had.above);
      other_frame = search rules;
      other_len = search rules;
      other_below = rw (next, c.swap_held.ensures.other_bits)
          (part_below _ _ _ _ 1024 (omega arith) (omega arith) had.above had.other_below);
      other_above = rw (next, c.swap_held.ensures.other_bits)
          (part_above _ _ _ _ 1024 (omega arith) (omega arith) had.other_above);
    }

pub returns-clause-bits : goal.returns-clause-bits
returns-clause-bits g c =
    let had = c.loop-k.invariant in
    changed_all _ _ c.len-len.result (omega arith) (omega arith)
    (rw c.swap_held-2.ensures.bits
    (λ k low. part_below _ _ _ (c.len-len.result / 1024 * 1024) (c.len-len.result - c.len-len.result / 1024 * 1024) (omega arith)
    (omega arith) (λ i above. had.other_above i (omega arith)) (λ i below. had.below i (omega arith)) k (omega arith)))

pub returns-clause-other_bits : goal.returns-clause-other_bits
returns-clause-other_bits g c =
    let had = c.loop-k.invariant in
    changed_all _ _ c.len-len.result (omega arith) (omega arith)
    (rw c.swap_held-2.ensures.other_bits
    (λ k low. part_below _ _ _ (c.len-len.result / 1024 * 1024) (c.len-len.result - c.len-len.result / 1024 * 1024) (omega arith)
    (omega arith) (λ i above. had.above i (omega arith)) (λ i below. had.other_below i (omega arith)) k (omega arith)))

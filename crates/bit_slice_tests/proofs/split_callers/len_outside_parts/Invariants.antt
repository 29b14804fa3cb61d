use Rattle.std.proofs.Common.{◌≡◌, ◌+◌, true, not, [], count_by}
use denote.Param.Always.{always_mut}
use Rattle.bit_slice_tests.proofs.split_callers.len_outside_parts.Given as goal

abbrev pub invariant-loop-part : goal.invariant-loop-part
invariant-loop-part g l = record {
  callable : always_mut g.F.FnMut l.parts.callee;
  counted : l.outside ≡ count_by (λ b. b) (g.V.Bits.bits l.fn.view) + count_by (λ b. not b) l.parts.bits;
  ended : l.parts.done ≡ true → l.parts.bits ≡ [];
}

use Rattle.std.proofs.Common.{◌≡◌, ◌+◌, not, count_by}
use Rattle.bit_slice_tests.proofs.iter_callers.ones_from_both_ends.Given as goal

abbrev pub invariant-loop-first : goal.invariant-loop-first
invariant-loop-first g l =
    l.ones ≡ count_by (λ b. b) (g.V.Bits.bits l.fn.view) + count_by (λ b. not b) l.bits

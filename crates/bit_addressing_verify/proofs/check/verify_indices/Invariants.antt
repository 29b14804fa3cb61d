use Rattle.std.proofs.Common.{◌≡◌}
use Rattle.bit_addressing_order.specs.BitOrder.{mask_from}
use Rattle.bit_addressing_verify.specs.OrderFault.{AreGoodIndices}
use Rattle.bit_addressing_verify.specs.VerifySteps.{AreWithin}
use Rattle.bit_addressing_verify.proofs.check.verify_indices.Given as goal

-- the indices so far are good, and their positions are met
abbrev pub invariant-loop-index : goal.invariant-loop-index
invariant-loop-index g l =
    (g.R.BitRegister.number l.met ≡ mask_from g.C.Positions.position 0 l.index)
    × AreGoodIndices g.C.Positions.position g.C.OrderCandidate.selector l.index
    × AreWithin g.R.BitRegister.BITS g.C.Positions.position l.index

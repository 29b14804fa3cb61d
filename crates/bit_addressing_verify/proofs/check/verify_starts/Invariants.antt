use Rattle.bit_addressing_verify.specs.OrderFault.{AreGoodStarts}
use Rattle.bit_addressing_verify.proofs.check.verify_starts.Given as goal

-- the masks from the indices so far are good
abbrev pub invariant-loop-index : goal.invariant-loop-index
invariant-loop-index g l =
    AreGoodStarts g.R.BitRegister.BITS g.C.Positions.position g.C.OrderCandidate.masked l.index

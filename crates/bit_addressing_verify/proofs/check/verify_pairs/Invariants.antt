use Rattle.bit_addressing_verify.specs.OrderFault.{AreGoodRows}
use Rattle.bit_addressing_verify.proofs.check.verify_pairs.Given as goal

-- the masks from the indices so far are good
abbrev pub invariant-loop-from : goal.invariant-loop-from
invariant-loop-from g l =
    AreGoodRows g.R.BitRegister.BITS g.C.Positions.position g.C.OrderCandidate.masked l.from

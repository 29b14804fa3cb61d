use Rattle.bit_addressing_verify.specs.OrderFault.{IsGoodRow}
use Rattle.bit_addressing_verify.proofs.check.verify_row.Given as goal

-- the masks up to the ends so far are good
abbrev pub invariant-loop-end : goal.invariant-loop-end
invariant-loop-end g l =
    IsGoodRow g.R.BitRegister.BITS g.C.Positions.position g.C.OrderCandidate.masked l.from l.end

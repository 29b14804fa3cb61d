use Rattle.std.proofs.Common.{◌<◌, arith}
use Rattle.std.proofs.lemmas.Result.{err_from_is_err_and}
use Rattle.bit_addressing_verify.proofs.VerifyLemmas.{pair_of_row}
use Rattle.bit_addressing_verify.proofs.check.verify_pairs.Goals as goal

-- the first fault from this index is the first, since the masks from those below are good
pub returns-in_err-verify_row : goal.returns-in_err-verify_row
returns-in_err-verify_row g c =
    let p = err_from_is_err_and c.from_residual.result c.from_residual.ensures.1 in
    let below : c.loop-from.from < g.R.BitRegister.BITS = omega arith in
    let fault = rw c.new_unchecked.ensures at c.in_err-verify_row.ensures in
    rw (p.1, p.2) (pair_of_row g.R.BitRegister.BITS g.C.Positions.position g.C.OrderCandidate.masked _ _ below
    c.loop-from.invariant fault)

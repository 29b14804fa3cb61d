use Rattle.std.proofs.lemmas.Bool.{false≢true}
use Rattle.std.proofs.lemmas.Result.{err_from_is_err_and}
use Rattle.bit_addressing_verify.proofs.VerifyLemmas.{not_lawful}
use Rattle.bit_addressing_verify.proofs.check.verify_for_type.Goals as goal

-- a candidate with a fault breaks a law
pub returns-in_err-verify_indices-clause-lawful : goal.returns-in_err-verify_indices-clause-lawful
returns-in_err-verify_indices-clause-lawful g c =
    let p = err_from_is_err_and c.from_residual.result c.from_residual.ensures.1 in
    let candidate = g.C.OrderCandidate in
    let not_so = not_lawful g.R.BitRegister.BITS g.C.Positions.position candidate.selector candidate.masked _
    c.in_err-verify_indices.ensures in
    rw p.1 (λ t. absurd (false≢true t), λ law. absurd (not_so law))

use Rattle.std.proofs.Common.{◌≡◌, ◌^◌, ◌∙◌, ap, sym, bit_and, arith}
use Rattle.bit_addressing_verify.proofs.VerifyLemmas.{new_position, more_met}
use Rattle.bit_addressing_verify.proofs.check.verify_index.Goals as goal

-- the selector is the position's, and no position met so far is the same
pub returns : goal.returns
returns g c =
    let number = g.R.BitRegister.number in
    let at = g.C.Positions.position in
    let place = at c.args.index in
    let alone : number c.into_inner-position.result ≡ 2 ^ place =
    ap number c.into_inner-position.ensures.value ∙ c.select.ensures ∙ ap (λ k. 2 ^ k) c.at.ensures in
    let chosen : g.C.OrderCandidate.selector c.args.index ≡ 2 ^ place =
    sym c.select-2.ensures ∙ sym (ap number c.into_inner-selected.ensures.value)
    ∙ c.equals.ensures.0 c.if-not-equals.false ∙ alone in
    let none : bit_and (number c.args.met) (number c.into_inner-position.result) ≡ 0 =
    sym c.and.ensures ∙ c.equals-2.ensures.0 c.if-not-equals-2.false ∙ ap number c.ZERO.ensures
    ∙ g.met.R.BitRegister.zero_is in (
      c.or.ensures ∙ more_met at _ _ _ c.requires alone,
      (chosen, new_position at _ _ _ c.requires alone none),
      omega arith,
    )

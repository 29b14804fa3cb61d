use Rattle.std.proofs.Common.{ap}
use Rattle.bit_addressing_order.specs.BitOrder.{lower, upper}
use Rattle.bit_addressing_verify.proofs.VerifyLemmas.{mask_test}
use Rattle.bit_addressing_verify.proofs.check.verify_mask.Goals as goal

-- a mask is right exactly where it is the one made index by index
pub returns : goal.returns
returns g c =
    let number = g.R.BitRegister.number in
    mask_test g.C.Positions.position (lower c.args.from) (upper g.R.BitRegister.BITS c.args.upto)
    (g.C.OrderCandidate.masked c.args.from c.args.upto) (number c.wanted_mask-wanted.result)
    (number c.mask.result) (number c.into_inner.result) _
    c.requires c.wanted_mask-wanted.ensures (ap number c.into_inner.ensures) c.mask.ensures.value c.equals.ensures

use Rattle.bit_addressing_memory.proofs.Common.{ap, ◌∙◌, arith, read_by}
use Rattle.bit_addressing_order.specs.Bits.{digit_at}
use Rattle.bit_addressing_memory.proofs.TransferLemmas.{stored_as}
use Rattle.bit_addressing_memory.proofs.transfer.with_placed.Goals as goal

pub returns : goal.returns
returns g c =
    let number = g.R.BitRegister.number c.placed-value.result in
    let is = rw (c.new_unchecked-head.ensures, c.new_unchecked.ensures) at c.stored.ensures in
    stored_as (read_by g.R.BitRegister g.O.Positions.position) c.args.word c.stored.result c.args.from c.args.upto _ _
    (λ i high low small. ap (digit_at number) (c.args.straight.goes i small)
    ∙ c.placed-value.ensures i high small (omega arith)) is

use Rattle.bit_addressing_memory.proofs.TransferLemmas.{not_straight}
use Rattle.bit_addressing_memory.proofs.transfer.with_part.Goals as goal

pub returns-in-Some : goal.returns-in-Some
returns-in-Some g c =
    rw (c.requires.own.goes c.in-Some.straight.direction c.in-Some.straight.goes) c.with_placed.ensures

pub returns-in-None : goal.returns-in-None
returns-in-None g c =
    let none = not_straight g.R.BitRegister.BITS g.O.Positions.position (rw c.in-None.is at c.find.ensures) in
    rw (c.requires.own.other none) c.with_spread.ensures

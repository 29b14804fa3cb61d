use Rattle.bit_addressing_memory.proofs.Common.{arith}
use Rattle.bit_addressing_memory.proofs.TransferLemmas.{not_straight, own_goes, own_none}
use Rattle.bit_addressing_memory.proofs.direction.direction_for.Goals as goal

pub returns-in-Some : goal.returns-in-Some
returns-in-Some g c =
    own_goes g.R.BitRegister.BITS g.P.Positions.position c.in-Some.straight.direction
    (omega (arith, g.met.R.BitRegister.least_bits)) c.in-Some.straight.goes

pub returns-in-None : goal.returns-in-None
returns-in-None g c =
    own_none g.R.BitRegister.BITS g.P.Positions.position
    (not_straight g.R.BitRegister.BITS g.P.Positions.position (rw c.in-None.is at c.find.ensures))

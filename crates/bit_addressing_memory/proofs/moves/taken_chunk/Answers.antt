use Rattle.bit_addressing_memory.proofs.Common.{◌-◌, arith, read_by}
use Rattle.bit_addressing_memory.proofs.TransferLemmas.{stored_as}
use Rattle.bit_addressing_memory.proofs.moves.taken_chunk.Goals as goal

pub returns-clause-stored : goal.returns-clause-stored
returns-clause-stored g c =
    stored_as (read_by g.R.BitRegister g.O.Positions.position) c.args.own c.with_part.result c.args.from c.args.upto _ _
    (λ i high low small. c.read_bits-chunk.ensures.digits.inside (i - c.args.from) (omega arith)) c.with_part.ensures

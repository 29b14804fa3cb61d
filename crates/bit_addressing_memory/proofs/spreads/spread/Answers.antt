use Rattle.bit_addressing_memory.proofs.Common.{◌+◌, ◌-◌, arith, indexed}
use Rattle.bit_addressing_memory.proofs.SpreadLemmas.{stored_next}
use Rattle.bit_addressing_memory.proofs.spreads.spread.Goals as goal

pub loop-i-preserved : goal.loop-i-preserved
loop-i-preserved g c =
    stored_next g.Q.BitRegister.BITS g.Q.BitRegister.number g.P.Positions.position _ _ c.args.target c.loop-i.made
    c.write_bit-made.result c.args.from c.loop-i.i c.read_bit-bit.result
    (λ i. indexed g.R.BitRegister.number g.O.Positions.position c.args.source (c.args.first + (i - c.args.from)))
    g.met.P.BitOrder.lawful (omega arith) (omega arith) (cc) (cc) c.loop-i.invariant

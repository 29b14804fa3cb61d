use Rattle.bit_addressing_memory.proofs.Common.{min, arith, read_by}
use Rattle.bit_addressing_memory.proofs.LimbLemmas.{limb_mixed}
use Rattle.bit_addressing_memory.proofs.limbs.with_bits.Goals as goal

pub returns : goal.returns
returns g c =
    limb_mixed (read_by g.R.BitRegister g.O.Positions.position) c.args.word c.with_limb-2.result c.args.base
    (min 64 g.R.BitRegister.BITS) c.args.from c.args.upto c.args.chunk c.limb_of-own.result c.patched-limb.result
    c.requires.low c.requires.order c.requires.high (omega arith) c.limb_of-own.ensures c.patched-limb.ensures
    c.with_limb-2.ensures

use Rattle.bit_addressing_memory.proofs.ShiftLemmas.{shifted_word}
use Rattle.bit_addressing_memory.proofs.shift.shifted.Goals as goal

pub returns : goal.returns
returns g c =
    let up = rw c.BITS.ensures at c.shl.ensures in
    shifted_word g.R.BitRegister.BITS (g.R.BitRegister.number c.args.low) (g.R.BitRegister.number c.args.high)
    (g.R.BitRegister.number c.shr.result) (g.R.BitRegister.number c.shl.result) (g.R.BitRegister.number c.or.result)
    c.args.by c.or.ensures c.shr.ensures up (g.met.R.BitRegister.number_fits c.args.low) c.requires.within

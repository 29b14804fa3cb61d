use Rattle.std.proofs.Common.{arith}
use Rattle.bit_addressing_memory.proofs.PartsLemmas.{reads_part, stores_part}
use Rattle.bit_addressing_memory.proofs.masking.store_in.Goals as goal

pub returns-clause-was : goal.returns-clause-was
returns-clause-was g c =
    reads_part _ c.args.words.now c.args.at _ _ _ _ c.requires.inside c.index-words-at.is c.masked.ensures.digits

pub returns-clause-now : goal.returns-clause-now
returns-clause-now g c =
    stores_part _ c.args.words.now c.args.at _ _ _ _ _ c.requires.inside c.index-words-at.is c.requires.order
    c.masked.ensures.within
    (omega (arith, g.met.R.BitRegister.least_bits)) c.stored.ensures

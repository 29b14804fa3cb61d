use Rattle.bit_addressing_memory.proofs.PartsLemmas.{reads_part}
use Rattle.bit_addressing_memory.proofs.masking.load_in.Goals as goal

pub returns : goal.returns
returns g c = reads_part _ c.args.words.now c.args.at _ _ _ _ c.requires.inside c.index-words-at.is
    c.masked.ensures.digits

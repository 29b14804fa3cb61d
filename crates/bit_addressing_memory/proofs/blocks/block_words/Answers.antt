use Rattle.bit_addressing_memory.proofs.BlockLemmas.{words_of_64}
use Rattle.bit_addressing_memory.proofs.blocks.block_words.Goals as goal

pub returns : goal.returns
returns g c =
    words_of_64 g.R.BitRegister.BITS c.BITS.result g.met.R.BitRegister.size c.requires c.BITS.ensures

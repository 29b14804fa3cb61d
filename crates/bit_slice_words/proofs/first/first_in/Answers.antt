use Rattle.bit_addressing_memory.proofs.Common.{arith, read_by}
use Rattle.bit_slice_words.proofs.ChunkedLemmas.{position_within}
use Rattle.bit_slice_words.proofs.first.first_in.Goals as goal

pub returns-in-Some-first_in_block : goal.returns-in-Some-first_in_block
returns-in-Some-first_in_block g c =
    position_within (read_by g.R.BitRegister g.O.Positions.position) c.args.words.now c.args.bit c.args.place c.args.len _
    0 _ c.in-Some-first_in_block.at (omega (arith, g.met.R.BitRegister.least_bits)) c.requires.lies.within (omega arith) (omega arith)
    (omega arith) (λ p low high. absurd (omega arith)) c.in-Some-first_in_block.ensures

use Rattle.bit_addressing_memory.proofs.Common.{◌+◌, None, arith, read_by}
use Rattle.bit_slice_words.specs.Stretch.{bit_found}
use Rattle.bit_slice_words.proofs.ChunkedLemmas.{first_later, position_within}
use Rattle.bit_slice_words.proofs.StretchLemmas.{position_in}
use Rattle.bit_slice_words.proofs.first.first_behind_block.Goals as goal

pub returns-in-Some-first_in_block : goal.returns-in-Some-first_in_block
returns-in-Some-first_in_block g c =
    position_within (read_by g.R.BitRegister g.O.Positions.position) c.args.words.now c.args.bit c.args.place c.args.len _
    _ _ c.in-Some-first_in_block.at (omega (arith, g.met.R.BitRegister.least_bits)) c.requires.lies.within (omega arith) (omega arith)
    (omega (arith, c.min-near.ensures)) c.loop-k.invariant c.in-Some-first_in_block.ensures

pub returns-in-Some-first_in_block-2 : goal.returns-in-Some-first_in_block-2
returns-in-Some-first_in_block-2 g c =
    position_within (read_by g.R.BitRegister g.O.Positions.position) c.args.words.now c.args.bit c.args.place c.args.len _
    _ _ c.in-Some-first_in_block-2.at (omega (arith, g.met.R.BitRegister.least_bits)) c.requires.lies.within (omega arith)
    (omega (arith, c.min-near.ensures)) (omega (arith, c.requires.many)) c.loop-k.invariant
    c.in-Some-first_in_block-2.ensures

pub returns-in-None : goal.returns-in-None
returns-in-None g c =
    let reading = read_by g.R.BitRegister g.O.Positions.position in
    position_in reading c.args.words.now c.args.bit c.args.place c.args.len None
    (omega (arith, g.met.R.BitRegister.least_bits)) c.requires.lies.within (first_later
    (bit_found reading c.args.words.now c.args.bit) c.args.place _ _ (c.args.place + c.args.len) None (omega arith)
    (omega (arith, c.min-near.ensures)) c.loop-k.invariant
    (λ p low high. c.in-None.ensures p low (omega (arith, c.requires.many))))

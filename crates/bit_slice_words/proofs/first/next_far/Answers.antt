use Rattle.bit_addressing_memory.proofs.Common.{◌+◌, ◌*◌, read_by}
use Rattle.bit_slice_words.specs.Stretch.{bit_found}
use Rattle.bit_slice_words.proofs.StretchLemmas.{nowhere_join, nowhere_opposite}
use Rattle.bit_slice_words.proofs.first.next_far.Goals as goal

pub returns-clause-none : goal.returns-clause-none
returns-clause-none g c =
    let reading = read_by g.R.BitRegister g.O.Positions.position in
    let words = c.args.words.now in
    let bit = c.args.bit in
    nowhere_join (bit_found reading words bit) (c.args.from * reading.bits)
    ((c.args.from + c.match_words-without.result) * reading.bits) (c.next_near.result * reading.bits)
    (nowhere_opposite reading words bit c.args.from c.match_words-without.result c.match_words-without.ensures.same)
    c.next_near.ensures.none

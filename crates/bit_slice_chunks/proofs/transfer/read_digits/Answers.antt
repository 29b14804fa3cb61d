use Rattle.bit_slice_chunks.proofs.DigitsLemmas.{digits_in_word}
use Rattle.bit_slice_chunks.proofs.transfer.read_digits.Goals as goal

pub returns : goal.returns
returns g c =
    digits_in_word g.R.BitRegister.BITS g.R.BitRegister.number g.O.Positions.position c.args.straight.direction
    c.args.straight.goes c.args.words.now c.args.word c.args.from c.args.count c.digits_below-below.result
    c.digits_from-chunk.result c.first_bits.result c.index-words-word.result c.requires.some c.requires.few c.requires.within
    c.first_bits.type_inv (rw c.BITS.ensures at c.digits_below-below.ensures.lowest) c.digits_from-chunk.ensures
    c.first_bits.ensures c.requires.inside c.index-words-word.is

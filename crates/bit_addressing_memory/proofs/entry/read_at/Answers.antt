use Rattle.bit_addressing_memory.proofs.Common.{◌≡◌, ◌<◌, ◌+◌, ◌*◌, length, ap, ◌∙◌, arith, entry, read_by}
use Rattle.bit_addressing_memory.proofs.EntryLemmas.{entry_read}
use Rattle.bit_addressing_memory.proofs.PlaceLemmas.{word_within}
use Rattle.bit_addressing_memory.proofs.entry.read_at.Goals as goal

pub returns : goal.returns
returns g c =
    let size = g.R.BitRegister.BITS in
    let reading = read_by g.R.BitRegister g.O.Positions.position in
    let words = c.args.words.now in
    let word = c.word.result in
    let index = c.index.result in
    let place : word * size + index ≡ c.args.place.0 * size + c.args.place.1 = cc in
    let within : word < length words = word_within size word index _ (omega (arith, c.requires.within)) in
    let read = entry_read reading words word index c.index-words-word.result
    c.index.ensures.within within c.index-words-word.is in
    record { value = c.read_bit.ensures.value ∙ read ∙ ap (entry reading words) place }

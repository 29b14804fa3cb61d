use Rattle.std.proofs.Common.{◌≡◌, ◌<◌, ◌+◌, ◌*◌, length, arith}
use Rattle.bit_addressing_memory.proofs.EntryLemmas.{writes_bit}
use Rattle.bit_addressing_memory.proofs.PlaceLemmas.{word_within}
use Rattle.bit_addressing_memory.proofs.entry.write_at.Goals as goal

pub returns : goal.returns
returns g c =
    let size = g.R.BitRegister.BITS in
    let word = c.word-word.result in
    let index = c.index.result in
    let place : word * size + index ≡ c.args.place.0 * size + c.args.place.1 = cc in
    let within : word < length c.args.words.now = word_within size word index _ (omega (arith, c.requires.within)) in
    let wrote = writes_bit size g.R.BitRegister.number g.O.Positions.position _ _ c.args.words.now
    c.index-words-word.result c.write_bit.result word index c.args.bit g.met.O.BitOrder.lawful
    c.index.ensures.within within c.index-words-word.is c.write_bit.ensures.value in
    record { written = rw place at wrote }

use Rattle.bit_addressing_memory.proofs.Common.{◌≡◌, ◌+◌, ◌-◌, ◌/◌, ◌%◌, ◌<◌, length, ap, arith, read_by}
use Rattle.std.proofs.lemmas.Nat.{mod_below}
use Rattle.bit_addressing_memory.proofs.PlaceLemmas.{first_word, touched_words, word_within}
use Rattle.bit_addressing_memory.proofs.ShiftedWords.{begins_inside}
use Rattle.bit_addressing_memory.proofs.shifted.bits_from.Goals as goal

pub returns-then-index-eq0-clause-digits : goal.returns-then-index-eq0-clause-digits
returns-then-index-eq0-clause-digits g c =
    let reading = read_by g.R.BitRegister g.O.Positions.position in
    let words = c.args.sweep.now.words.now in
    let b = c.bits_of-bits.result in
    let p = c.args.place in
    let at = first_word reading.bits b p c.bits_of-bits.ensures in
    let within = word_within reading.bits (p / b) (p % b) (length words)
    (omega (arith, at, c.requires.some, c.requires.within)) in
    begins_inside reading words p c.args.count (p / b) (p % b) c.read-first.result c.read-first.result at
    (omega (arith, c.if-index-eq0.true, c.requires.most)) within c.read-first.ensures.value
    (λ i _.
    let same : i ≡ p % b + i = omega (arith, c.if-index-eq0.true) in
    ap (reading.digit c.read-first.result) same)

pub returns-then-index-count-clause-digits : goal.returns-then-index-count-clause-digits
returns-then-index-count-clause-digits g c =
    let reading = read_by g.R.BitRegister g.O.Positions.position in
    let words = c.args.sweep.now.words.now in
    let b = c.bits_of-bits.result in
    let p = c.args.place in
    let at = first_word reading.bits b p c.bits_of-bits.ensures in
    let within = word_within reading.bits (p / b) (p % b) (length words)
    (omega (arith, at, c.requires.some, c.requires.within)) in
    begins_inside reading words p c.args.count (p / b) (p % b) c.read-first.result c.joined.result at
    (omega (arith, c.if-index-count.true, c.bits_of-bits.ensures)) within c.read-first.ensures.value
    c.joined.ensures.from_first

-- the bits go on in the next word
pub returns-clause-reads : goal.returns-clause-reads
returns-clause-reads g c =
    let b = g.R.BitRegister.BITS in
    let bits = c.bits_of-bits.result in
    let p = c.args.place in
    let some : 0 < bits = omega (arith, g.met.R.BitRegister.least_bits, c.bits_of-bits.ensures) in
    let at = first_word b bits p c.bits_of-bits.ensures in
    let index : p % bits < b = omega (arith, mod_below p bits some, c.bits_of-bits.ensures) in
    let past : b < p % bits + c.args.count = omega (arith, c.if-index-count.false, c.bits_of-bits.ensures) in
    let two =
    touched_words b p c.args.count (p / bits) (p % bits) (p / bits + 1) (p % bits + c.args.count - b) at
    (omega (arith, at)) index (omega arith) (omega (arith, c.requires.most)) c.requires.some in
    let read = c.cut.ensures.two (omega (arith, c.requires.most)) in
    omega (arith, two, read)

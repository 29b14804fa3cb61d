use Rattle.bit_addressing_memory.proofs.Common.{◌≡◌, ◌+◌, ◌*◌, ◌<◌, ◌≤◌, length, refl, ap, arith, read_by}
use Rattle.bit_addressing_memory.proofs.ShiftedWords.{begins_across, begins_inside}
use Rattle.bit_addressing_memory.proofs.shifted.cut.Goals as goal

pub returns-then-by-eq0-clause-digits : goal.returns-then-by-eq0-clause-digits
returns-then-by-eq0-clause-digits g c =
    let reading = read_by g.R.BitRegister g.O.Positions.position in
    let first = c.read-first.result in
    begins_inside reading c.args.sweep.now.words.now (c.args.word * reading.bits + c.args.by) reading.bits c.args.word
    c.args.by first first refl (omega (arith, c.if-by-eq0.true)) c.requires.first c.read-first.ensures.value
    (λ i _.
    let same : i ≡ c.args.by + i = omega (arith, c.if-by-eq0.true) in
    ap (reading.digit first) same)

pub returns-clause-digits : goal.returns-clause-digits
returns-clause-digits g c =
    let reading = read_by g.R.BitRegister g.O.Positions.position in
    let words = c.args.sweep.now.words.now in
    let most : reading.bits ≤ reading.bits = omega arith in
    let within : c.args.word + 1 < length words = c.requires.next (omega (arith, c.if-by-eq0.false)) in
    let read = rw c.read-first.ensures.same.words at c.read-next.ensures.value in
    begins_across reading words (c.args.word * reading.bits + c.args.by) reading.bits c.args.word c.args.by
    c.read-first.result c.read-next.result c.joined.result refl c.requires.index most within
    c.read-first.ensures.value read c.joined.ensures

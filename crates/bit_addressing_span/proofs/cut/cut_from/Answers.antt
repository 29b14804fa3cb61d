use Rattle.std.proofs.Common.{arith, ℕ, ◌-◌, ◌<◌, ◌*◌, ◌+◌, ◌∙◌, ap, ◌≡◌, length, length-drop}
use Rattle.bit_addressing_memory.specs.Memory.{read_by, memory}
use Rattle.bit_addressing_span.proofs.CutLemmas.{bits_from_word, no_bits, span_within}
use Rattle.bit_addressing_span.proofs.MaskedLemmas.{masked_from_word}
use Rattle.bit_addressing_span.proofs.cut.cut_from.Goals as goal

pub returns-then-len-eq0-clause-bits : goal.returns-then-len-eq0-clause-bits
unfolding memory
returns-then-len-eq0-clause-bits g c =
    let reading = read_by g.R.BitRegister g.O.Positions.position in
    no_bits (memory reading c.args.words.now) (c.args.word * g.R.BitRegister.BITS + c.args.head)
    c.args.len c.if-len-eq0.true

pub cut_words-requires-clause-within : goal.cut_words-requires-clause-within
cut_words-requires-clause-within g c =
    let b : ℕ = g.R.BitRegister.BITS in
    let count : length c.words_from-rest.result.now ≡ length c.args.words.now - c.args.word =
    ap length c.words_from-rest.ensures ∙ length-drop c.args.word c.args.words.now in
    let some : 0 < c.args.len = omega (arith, c.if-len-eq0.false) in
    span_within b c.args.word c.args.head c.args.len (length c.args.words.now) (length c.words_from-rest.result.now)
    c.requires.index some c.requires.fits count

pub returns-clause-bits : goal.returns-clause-bits
returns-clause-bits g c =
    let reading = read_by g.R.BitRegister g.O.Positions.position in
    bits_from_word reading c.args.words.now c.args.word c.args.head c.args.len _
    (omega (arith, c.requires.fits)) (rw c.words_from-rest.ensures at c.cut_words.ensures.bits)

pub returns-clause-masked : goal.returns-clause-masked
returns-clause-masked g c =
    masked_from_word (read_by g.R.BitRegister g.O.Positions.position) g.O.Positions.position c.args.words.now
    c.args.word c.args.head c.args.len _ (rw c.words_from-rest.ensures at c.cut_words.ensures.masked)

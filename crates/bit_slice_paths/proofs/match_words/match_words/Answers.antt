use Rattle.bit_addressing_memory.proofs.Common.{◌≡◌, ◌+◌, ◌-◌, ◌*◌, ◌/◌, ◌≤◌, ◌∙◌, sym, ap, arith, false≢true, entry}
use Rattle.bit_addressing_memory.proofs.Common.{read_by}
use Rattle.std.proofs.Math.Nat.{mul-le-mul_left}
use Rattle.std.proofs.lemmas.Nat.{div-add-mod'}
use Rattle.bit_slice_paths.proofs.WholeWordLemmas.{same_words_more, same_words_part}
use Rattle.bit_slice_paths.proofs.match_words.match_words.Goals as goal

pub loop-round-preserved : goal.loop-round-preserved
loop-round-preserved g c =
    let mine = entry (read_by g.R.BitRegister g.O.Positions.position) c.args.words.now in
    let size = c.round_words-size.result in
    same_words_more mine (g.S.WordSource.bit c.args.source.now) g.R.BitRegister.BITS c.args.first
    (size * c.loop-round.round) size (size * (c.loop-round.round + 1)) (omega arith) c.loop-round.invariant
    (c.same_words.ensures.0 c.if-not-same_words.false)

pub returns-then-not-same_words-clause-differ : goal.returns-then-not-same_words-clause-differ
returns-then-not-same_words-clause-differ g c _ same =
    let mine = entry (read_by g.R.BitRegister g.O.Positions.position) c.args.words.now in
    let size = c.round_words-size.result in
    let whole : size * (c.loop-round.round + 1) ≤ size * (c.args.n / size) = mul-le-mul_left size (omega arith) in
    false≢true (sym c.if-not-same_words.true ∙ c.same_words.ensures.1 (same_words_part mine
    (g.S.WordSource.bit c.args.source.now) g.R.BitRegister.BITS c.args.first (size * c.loop-round.round) size c.args.n
    (omega (arith, whole, div-add-mod' c.args.n size)) same))

pub returns-then-same_words-clause-same : goal.returns-then-same_words-clause-same
returns-then-same_words-clause-same g c =
    let mine = entry (read_by g.R.BitRegister g.O.Positions.position) c.args.words.now in
    let size = c.round_words-size.result in
    let done = size * (c.args.n / size) in
    let all : c.loop-round.round ≡ c.args.n / size = omega (arith, c.loop-round.auto.round-end, c.loop-round-test.false) in
    let rounds : size * c.loop-round.round ≡ done = ap (λ k. size * k) all in
    same_words_more mine (g.S.WordSource.bit c.args.source.now) g.R.BitRegister.BITS c.args.first done (c.args.n - done)
    c.args.n (omega (arith, div-add-mod' c.args.n size)) (rw rounds at c.loop-round.invariant)
    (c.same_words-2.ensures.0 c.if-same_words.true)

pub returns-else-same_words-clause-differ : goal.returns-else-same_words-clause-differ
returns-else-same_words-clause-differ g c _ same =
    let mine = entry (read_by g.R.BitRegister g.O.Positions.position) c.args.words.now in
    let size = c.round_words-size.result in
    let done = size * (c.args.n / size) in
    false≢true (sym c.if-same_words.false ∙ c.same_words-2.ensures.1 (same_words_part mine
    (g.S.WordSource.bit c.args.source.now) g.R.BitRegister.BITS c.args.first done (c.args.n - done) c.args.n
    (omega (arith, div-add-mod' c.args.n size)) same))

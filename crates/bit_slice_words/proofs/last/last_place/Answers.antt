use Rattle.bit_addressing_memory.proofs.Common.{◌+◌, arith, read_by}
use Rattle.bit_slice_words.specs.Stretch.{bit_found}
use Rattle.bit_slice_words.proofs.StretchLemmas.{last_of_cut}
use Rattle.bit_slice_words.proofs.last.last_place.Goals as goal
use Rattle.bit_slice_words.proofs.last.last_place.Goals.{then-before-cut, else-before-cut}

-- none in the last word's part, none in the words down to `before`, and what is found in that one
pub returns : goal.returns
returns g c =
    let b = g.R.BitRegister.BITS in
    let cut = c.edges_of-cut.ensures in
    let at = c.edges_of-cut.result in
    let before = c.word_before-before.ensures in
    let found = rw c.BITS.ensures at c.last_at-3.ensures in
    last_of_cut (bit_found (read_by g.R.BitRegister g.O.Positions.position) c.args.words.now c.args.bit) b
    c.args.place (c.args.place + c.args.len) at.first at.from at.last at.upto
    c.word_before-before.result c.if-before-cut.from c.last_at-3.result cut.start cut.end (omega arith) cut.within
    before.least before.most c.in_default.ensures before.none before.some
    (λ same. elim c.if-before-cut.branch [ then-before-cut w ↦ w.from-is | else-before-cut w ↦ absurd (omega arith) ])
    (λ less. elim c.if-before-cut.branch [ then-before-cut w ↦ absurd (omega arith) | else-before-cut w ↦ omega arith ])
    found

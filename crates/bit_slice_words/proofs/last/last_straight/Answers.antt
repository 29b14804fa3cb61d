use Rattle.bit_addressing_memory.proofs.Common.{◌+◌, ◌*◌, refl, arith, read_by}
use Rattle.bit_slice_words.specs.Stretch.{bit_found}
use Rattle.bit_slice_words.proofs.ChunkedLemmas.{last_earlier}
use Rattle.bit_slice_words.proofs.StretchLemmas.{nowhere_part}
use Rattle.bit_slice_words.proofs.last.last_straight.Goals as goal

pub returns-then-lacks : goal.returns-then-lacks
returns-then-lacks g c =
    nowhere_part (read_by g.R.BitRegister g.O.Positions.position) c.args.words.now c.args.bit c.args.word c.args.from
    c.args.upto c.index-words-word.result c.requires.inside c.index-words-word.is c.requires.within
    (λ i low high. c.if-lacks.ensures.0 refl i (omega arith))

pub returns : goal.returns
returns g c =
    let start = c.args.word * g.R.BitRegister.BITS in
    let middle = c.max-middle.result in
    last_earlier (bit_found (read_by g.R.BitRegister g.O.Positions.position) c.args.words.now c.args.bit)
    (start + c.args.from) (start + middle) (start + middle) (start + c.args.upto) c.last_in_part-3.result (omega arith)
    (omega (arith, c.max-middle.ensures, c.saturating_sub.ensures, c.requires.order)) c.in_default.ensures
    c.last_in_part-3.ensures

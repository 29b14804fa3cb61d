use Rattle.bit_addressing_memory.proofs.Common.{◌+◌, arith, false≢true, read_by}
use Rattle.bit_slice_words.proofs.StretchLemmas.{word_nowhere}
use Rattle.bit_slice_words.proofs.first.next_near.Goals as goal

pub returns-then-not-lacks-clause-some : goal.returns-then-not-lacks-clause-some
returns-then-not-lacks-clause-some g c _ none =
    false≢true (c.if-not-lacks.ensures.1 (word_nowhere (read_by g.R.BitRegister g.O.Positions.position)
    c.args.words.now c.args.bit (c.args.from + c.loop-i.i) c.index-words-k.result (omega arith) c.index-words-k.is none))

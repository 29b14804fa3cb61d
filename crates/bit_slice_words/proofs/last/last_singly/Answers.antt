use Rattle.bit_addressing_memory.specs.Memory.{read_by}
use Rattle.bit_slice_words.proofs.StretchLemmas.{last_part, nowhere_part}
use Rattle.bit_slice_words.proofs.last.last_singly.Goals as goal

pub returns-in-Some : goal.returns-in-Some
returns-in-Some g c =
    rw c.bits_of.ensures
    (last_part (read_by g.R.BitRegister g.O.Positions.position) c.args.words.now c.args.bit c.args.word c.args.from
    c.args.upto c.in-Some.i c.index-words-word.result c.requires.inside c.index-words-word.is c.requires.within
    c.in-Some.ensures)

pub returns-in-None : goal.returns-in-None
returns-in-None g c =
    nowhere_part (read_by g.R.BitRegister g.O.Positions.position) c.args.words.now c.args.bit c.args.word c.args.from
    c.args.upto c.index-words-word.result c.requires.inside c.index-words-word.is c.requires.within c.in-None.ensures

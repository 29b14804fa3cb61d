use Rattle.bit_addressing_memory.proofs.Common.{◌+◌, arith, memory, piece, read_by}
use Rattle.bit_addressing_memory.proofs.WindowLemmas.{length-window}
use Rattle.bit_slice_words.proofs.SameLemmas.{answers_no, answers_yes, holds_here, holds_none, none_more, windows_equal}
use Rattle.bit_slice_words.proofs.contains.contains_from.Goals as goal

pub returns-then-agree_rest-other_len : goal.returns-then-agree_rest-other_len
returns-then-agree_rest-other_len g c =
    let reading = read_by g.R.BitRegister g.O.Positions.position in
    let its = read_by g.Q.BitRegister g.P.Positions.position in
    let ys = piece (memory its c.args.others.now) c.args.other_place c.args.other_len in
    let size = length-window its c.args.others.now c.args.other_place c.args.other_len c.requires.other_lies.within in
    answers_yes (holds_here reading c.args.words.now c.args.place c.args.len c.args.from c.args.other_len ys
    c.requires.lies.within c.requires.order size
    (windows_equal reading c.args.words.now its c.args.others.now (c.args.place + c.args.from) c.args.other_place
    c.args.other_len (omega (arith, g.met.R.BitRegister.least_bits)) (omega (arith, g.met.Q.BitRegister.least_bits))
    (omega (arith, c.requires.lies.within, c.requires.order)) c.requires.other_lies.within
    (λ k low. c.agree_rest.ensures.same k (omega (arith, c.if-agree_rest-other_len.true)))))

pub returns-then-len-other_len : goal.returns-then-len-other_len
returns-then-len-other_len g c =
    let reading = read_by g.R.BitRegister g.O.Positions.position in
    let its = read_by g.Q.BitRegister g.P.Positions.position in
    let ys = piece (memory its c.args.others.now) c.args.other_place c.args.other_len in
    let size = length-window its c.args.others.now c.args.other_place c.args.other_len c.requires.other_lies.within in
    let none =
    none_more reading c.args.words.now its c.args.others.now c.args.place c.args.other_place c.args.other_len
    c.args.other_len c.agree_rest.result c.args.from (omega (arith, g.met.R.BitRegister.least_bits))
    (omega (arith, g.met.Q.BitRegister.least_bits)) (omega arith) c.if-agree_rest-other_len.false c.requires.none
    c.agree_rest.ensures in
    answers_no (holds_none reading c.args.words.now c.args.place c.args.len c.args.other_len ys c.requires.lies.within size
    (λ i inside. none i (omega (arith, inside, c.if-len-other_len.true))))

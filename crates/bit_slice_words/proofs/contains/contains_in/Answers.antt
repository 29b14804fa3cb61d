use Rattle.bit_addressing_memory.proofs.Common.{◌+◌, ◌∙◌, arith, memory, piece, read_by}
use Rattle.bit_addressing_memory.proofs.WindowLemmas.{length-window}
use Rattle.bit_slice_words.proofs.SameLemmas.{answers_no, answers_yes, holds_empty, holds_here, holds_none, holds_short}
use Rattle.bit_slice_words.proofs.SameLemmas.{none_more, windows_equal}
use Rattle.bit_slice_words.proofs.contains.contains_in.Goals as goal

pub returns-then-other_len-eq0 : goal.returns-then-other_len-eq0
returns-then-other_len-eq0 g c =
    let its = read_by g.Q.BitRegister g.P.Positions.position in
    let size = length-window its c.args.others.now c.args.other_place c.args.other_len c.requires.other_lies.within in
    answers_yes (holds_empty _ _ (size ∙ c.if-other_len-eq0.true))

pub returns-then-len-other_len : goal.returns-then-len-other_len
returns-then-len-other_len g c =
    let reading = read_by g.R.BitRegister g.O.Positions.position in
    let its = read_by g.Q.BitRegister g.P.Positions.position in
    let size = length-window reading c.args.words.now c.args.place c.args.len c.requires.lies.within in
    let its_size = length-window its c.args.others.now c.args.other_place c.args.other_len c.requires.other_lies.within in
    answers_no (holds_short (piece (memory reading c.args.words.now) c.args.place c.args.len)
    (piece (memory its c.args.others.now) c.args.other_place c.args.other_len) (omega arith))

pub loop-i-preserved : goal.loop-i-preserved
loop-i-preserved g c =
    none_more (read_by g.R.BitRegister g.O.Positions.position) c.args.words.now
    (read_by g.Q.BitRegister g.P.Positions.position) c.args.others.now c.args.place c.args.other_place
    c.few_to_compare-few.result c.args.other_len c.agree_singly.result c.loop-i.i
    (omega (arith, g.met.R.BitRegister.least_bits)) (omega (arith, g.met.Q.BitRegister.least_bits)) (omega arith)
    c.if-agree_singly-few.false c.loop-i.invariant c.agree_singly.ensures

pub returns-then-few-other_len : goal.returns-then-few-other_len
returns-then-few-other_len g c =
    let reading = read_by g.R.BitRegister g.O.Positions.position in
    let its = read_by g.Q.BitRegister g.P.Positions.position in
    let ys = piece (memory its c.args.others.now) c.args.other_place c.args.other_len in
    let size = length-window its c.args.others.now c.args.other_place c.args.other_len c.requires.other_lies.within in
    answers_yes (holds_here reading c.args.words.now c.args.place c.args.len c.loop-i.i c.args.other_len ys
    c.requires.lies.within (omega arith) size
    (windows_equal reading c.args.words.now its c.args.others.now (c.args.place + c.loop-i.i) c.args.other_place
    c.args.other_len (omega (arith, g.met.R.BitRegister.least_bits)) (omega (arith, g.met.Q.BitRegister.least_bits))
    (omega (arith, c.requires.lies.within)) c.requires.other_lies.within
    (λ k low. c.agree_singly.ensures.same k (omega (arith, c.if-agree_singly-few.true, c.if-few-other_len.true)))))

pub returns-then-places-starts : goal.returns-then-places-starts
returns-then-places-starts g c =
    let reading = read_by g.R.BitRegister g.O.Positions.position in
    let its = read_by g.Q.BitRegister g.P.Positions.position in
    let ys = piece (memory its c.args.others.now) c.args.other_place c.args.other_len in
    let size = length-window its c.args.others.now c.args.other_place c.args.other_len c.requires.other_lies.within in
    answers_no (holds_none reading c.args.words.now c.args.place c.args.len c.args.other_len ys c.requires.lies.within size
    (λ i inside. c.loop-i.invariant i (omega arith)))

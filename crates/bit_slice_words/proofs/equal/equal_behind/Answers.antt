use Rattle.bit_addressing_memory.proofs.Common.{◌-◌, arith, read_by}
use Rattle.bit_slice_paths.proofs.AcrossLemmas.{agrees_more}
use Rattle.bit_slice_words.proofs.SameLemmas.{answers_no, windows_agree, windows_stand}
use Rattle.bit_slice_words.proofs.equal.equal_behind.Goals as goal

pub returns-then-reached : goal.returns-then-reached
returns-then-reached g c = answers_no (λ same. c.match_behind-reached.ensures.differ c.if-reached.true (windows_stand
    (read_by g.R.BitRegister g.O.Positions.position) c.args.words.now (read_by g.Q.BitRegister g.P.Positions.position)
    c.args.others.now c.args.place c.args.other_place c.args.len (omega (arith, g.met.R.BitRegister.least_bits))
    (omega (arith, g.met.Q.BitRegister.least_bits)) same))

pub returns-then-len-same-le-ROUND : goal.returns-then-len-same-le-ROUND
returns-then-len-same-le-ROUND g c =
    let reading = read_by g.R.BitRegister g.O.Positions.position in
    let its = read_by g.Q.BitRegister g.P.Positions.position in
    let words = c.args.words.now in
    let others = c.args.others.now in
    windows_agree reading words its others c.args.place c.args.other_place c.args.len _
    (omega (arith, g.met.R.BitRegister.least_bits)) (omega (arith, g.met.Q.BitRegister.least_bits))
    c.requires.lies.within c.requires.other_lies.within
    (agrees_more reading its words others c.args.place c.args.other_place (c.args.len - 256) 256 c.args.len
    c.difference.result (omega arith) (λ low. omega arith)
    (λ k low. c.match_behind-reached.ensures.same k (omega arith)) c.difference.ensures)

pub returns : goal.returns
returns g c =
    windows_agree (read_by g.R.BitRegister g.O.Positions.position) c.args.words.now
    (read_by g.Q.BitRegister g.P.Positions.position) c.args.others.now c.args.place c.args.other_place c.args.len
    c.agree_rest.result (omega (arith, g.met.R.BitRegister.least_bits)) (omega (arith, g.met.Q.BitRegister.least_bits))
    c.requires.lies.within c.requires.other_lies.within c.agree_rest.ensures

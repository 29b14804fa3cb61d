use Rattle.bit_addressing_memory.proofs.Common.{◌≡◌, ◌+◌, ◌-◌, refl, arith, read_by}
use Rattle.bit_slice_paths.proofs.AcrossLemmas.{agrees_more}
use Rattle.bit_slice_paths.proofs.WalkLemmas.{equal_more}
use Rattle.bit_slice_words.proofs.agree.agree_rest.Goals as goal

pub returns-then-same-next : goal.returns-then-same-next
returns-then-same-next g c =
    agrees_more (read_by g.R.BitRegister g.O.Positions.position) (read_by g.Q.BitRegister g.P.Positions.position)
    c.args.words.now c.args.others.now c.args.place c.args.other_place c.args.few c.few_behind-next.result c.args.len
    c.agree_singly-same.result (omega arith) (λ low. omega arith) c.requires.same c.agree_singly-same.ensures

pub returns : goal.returns
returns g c =
    let reading = read_by g.R.BitRegister g.O.Positions.position in
    let its = read_by g.Q.BitRegister g.P.Positions.position in
    let words = c.args.words.now in
    let others = c.args.others.now in
    let next = c.few_behind-next.result in
    let known = c.args.few + next in
    let all : c.agree_singly-same.result ≡ next = omega (arith, c.agree_singly-same.ensures.most, c.if-same-next.false) in
    agrees_more reading its words others c.args.place c.args.other_place known (c.args.len - known) c.args.len
    c.difference.result (omega arith) (λ low. omega arith)
    (equal_more reading its words others c.args.place c.args.other_place c.args.few next known refl c.requires.same
    (rw all at c.agree_singly-same.ensures.same)) c.difference.ensures

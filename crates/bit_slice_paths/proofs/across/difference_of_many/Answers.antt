use Rattle.bit_addressing_memory.proofs.Common.{◌-◌, arith, read_by}
use Rattle.bit_slice_paths.proofs.AcrossLemmas.{agrees_more}
use Rattle.bit_slice_paths.proofs.across.difference_of_many.Goals as goal

pub returns : goal.returns
returns g c =
    let reading = read_by g.R.BitRegister g.O.Positions.position in
    let its = read_by g.Q.BitRegister g.P.Positions.position in
    let words = c.args.words.now in
    let others = c.args.others.now in
    let known = c.match_many-same.ensures.matches in
    let same = c.match_many-same.result.done in
    agrees_more reading its words others c.args.place c.args.other_place same (c.args.len - same) c.args.len
    c.mismatch_by_blocks-rest.result.done (omega (arith, known.most)) (λ low. omega arith) known.same
    c.mismatch_by_blocks-rest.ensures.agrees

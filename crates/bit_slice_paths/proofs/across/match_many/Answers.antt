use Rattle.bit_addressing_memory.proofs.Common.{◌-◌, arith, read_by}
use Rattle.bit_slice_paths.proofs.AcrossLemmas.{matches_more, matches_near}
use Rattle.bit_slice_paths.proofs.across.match_many.Goals as goal

pub returns-clause-matches : goal.returns-clause-matches
returns-clause-matches g c =
    let reading = read_by g.R.BitRegister g.O.Positions.position in
    let its = read_by g.Q.BitRegister g.P.Positions.position in
    let words = c.args.words.now in
    let others = c.args.others.now in
    let done = c.match_behind-far.result.done in
    let left = c.args.len - done in
    matches_more reading its words others c.args.place c.args.other_place done left c.args.len
    c.mismatch_by_blocks-rest.result.done (omega arith) c.match_behind-far.ensures.same
    (matches_near reading its words others _ _ left left c.mismatch_by_blocks-rest.result.done (omega arith) (λ low. low)
    c.mismatch_by_blocks-rest.ensures.agrees)

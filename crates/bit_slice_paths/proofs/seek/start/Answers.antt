use Rattle.bit_addressing_memory.proofs.Common.{◌+◌, ◌*◌, min, arith, read_by}
use Rattle.bit_slice_paths.proofs.SeekLemmas.{seeks_before, seeks_more}
use Rattle.bit_slice_paths.proofs.seek.start.Goals as goal

pub returns-then-at-near : goal.returns-then-at-near
returns-then-at-near g c =
    let done = 33 * c.loop-k.k in
    seeks_more (read_by g.R.BitRegister g.O.Positions.position) (read_by g.Q.BitRegister g.P.Positions.position)
    c.args.words.now c.args.others.now c.args.place c.args.other_place c.args.len done c.min-near.result
    c.start_near-at.result c.args.starts (omega arith) (omega arith) (λ i low. c.loop-k.invariant i (omega arith))
    c.start_near-at.ensures

pub loop-k-preserved : goal.loop-k-preserved
loop-k-preserved g c =
    let k = c.loop-k.k in
    seeks_before (read_by g.R.BitRegister g.O.Positions.position) (read_by g.Q.BitRegister g.P.Positions.position)
    c.args.words.now c.args.others.now c.args.place c.args.other_place c.args.len (33 * k) c.min-near.result
    c.start_near-at.result (min c.args.starts (33 * (k + 1))) (omega arith)
    (λ i low. c.loop-k.invariant i (omega arith)) c.start_near-at.ensures

use Rattle.bit_addressing_memory.proofs.Common.{refl, read_by}
use Rattle.bit_slice_paths.proofs.SeekLemmas.{seeks_next}
use Rattle.bit_slice_paths.proofs.seek.start_near.Goals as goal

pub loop-i-preserved : goal.loop-i-preserved
loop-i-preserved g c =
    seeks_next (read_by g.R.BitRegister g.O.Positions.position) (read_by g.Q.BitRegister g.P.Positions.position)
    c.args.words.now c.args.others.now c.args.place c.args.other_place c.args.len c.loop-i.i c.loop-i.invariant
    (c.if-shows.ensures.no refl)

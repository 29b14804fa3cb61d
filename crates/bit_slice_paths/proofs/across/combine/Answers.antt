use Rattle.bit_addressing_memory.proofs.Common.{◌+◌, ◌-◌, refl, arith, read_by}
use Rattle.bit_slice_chunks.specs.Combined.{combined_bit}
use Rattle.bit_slice_paths.proofs.WalkLemmas.{combines_more}
use Rattle.bit_slice_paths.proofs.across.combine.Goals as goal

pub loop-k-preserved : goal.loop-k-preserved
loop-k-preserved g c =
    let reading = read_by g.R.BitRegister g.O.Positions.position in
    let its = read_by g.Q.BitRegister g.P.Positions.position in
    let done = c.loop-k.done in
    record {
      count = omega arith;
      combined =
          combines_more reading its c.args.words.now c.loop-k.words c.combine_whole.new.words c.args.others.now
          c.args.place c.args.other_place done 64 (done + 64) (combined_bit g.H.Combining.HOW) refl
          c.loop-k.invariant.combined c.combine_whole.ensures;
    }

pub returns-clause-combined : goal.returns-clause-combined
returns-clause-combined g c =
    let reading = read_by g.R.BitRegister g.O.Positions.position in
    let its = read_by g.Q.BitRegister g.P.Positions.position in
    let done = c.loop-k.done in
    combines_more reading its c.args.words.now c.loop-k.words c.combine_part-2.new.words c.args.others.now
    c.args.place c.args.other_place done (c.args.len - done) c.args.len (combined_bit g.H.Combining.HOW)
    (omega (arith, c.before_chunks-before.ensures.within)) c.loop-k.invariant.combined c.combine_part-2.ensures

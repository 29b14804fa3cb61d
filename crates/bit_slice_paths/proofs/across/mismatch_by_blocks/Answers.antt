use Rattle.bit_addressing_memory.proofs.Common.{◌≡◌, ◌+◌, ◌-◌, ◌*◌, refl, arith, read_by}
use Rattle.bit_slice_paths.proofs.AcrossLemmas.{agrees_more}
use Rattle.bit_slice_paths.proofs.WalkLemmas.{equal_more}
use Rattle.bit_slice_paths.proofs.across.mismatch_by_blocks.Goals as goal

pub returns-then-same-lt64-clause-agrees : goal.returns-then-same-lt64-clause-agrees
returns-then-same-lt64-clause-agrees g c =
    let reading = read_by g.R.BitRegister g.O.Positions.position in
    let its = read_by g.Q.BitRegister g.P.Positions.position in
    let before = c.before_chunks-before.result in
    let done = c.loop-k.done in
    let here : c.args.place + before + 64 * c.loop-k.k ≡ c.args.place + done = omega arith in
    let there : c.args.other_place + before + 64 * c.loop-k.k ≡ c.args.other_place + done = omega arith in
    agrees_more reading its c.args.words.now c.args.others.now c.args.place c.args.other_place done 64 c.args.len
    c.difference_of_block-same.result (omega (arith, c.before_chunks-before.ensures.within)) (λ _. c.if-same-lt64.true)
    c.loop-k.invariant.same (rw (here, there) at c.difference_of_block-same.ensures)

pub loop-k-preserved : goal.loop-k-preserved
loop-k-preserved g c =
    let reading = read_by g.R.BitRegister g.O.Positions.position in
    let its = read_by g.Q.BitRegister g.P.Positions.position in
    let before = c.before_chunks-before.result in
    let done = c.loop-k.done in
    let here : c.args.place + before + 64 * c.loop-k.k ≡ c.args.place + done = omega arith in
    let there : c.args.other_place + before + 64 * c.loop-k.k ≡ c.args.other_place + done = omega arith in
    let block = rw (here, there) at c.difference_of_block-same.ensures in
    record {
      count = omega arith;
      same =
          equal_more reading its c.args.words.now c.args.others.now c.args.place c.args.other_place done 64 (done + 64) refl
          c.loop-k.invariant.same (λ i low. block.same i (omega (arith, c.if-same-lt64.false)));
    }

pub returns-clause-agrees : goal.returns-clause-agrees
returns-clause-agrees g c =
    let reading = read_by g.R.BitRegister g.O.Positions.position in
    let its = read_by g.Q.BitRegister g.P.Positions.position in
    agrees_more reading its c.args.words.now c.args.others.now c.args.place c.args.other_place c.loop-k.done
    (c.args.len - c.loop-k.done) c.args.len c.difference_of_part-same-2.result
    (omega (arith, c.before_chunks-before.ensures.within)) (λ low. omega arith) c.loop-k.invariant.same
    c.difference_of_part-same-2.ensures

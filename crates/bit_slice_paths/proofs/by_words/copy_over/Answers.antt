use Rattle.bit_addressing_memory.proofs.Common.{◌≡◌, ◌+◌, ◌-◌, ◌*◌, ◌/◌, ◌<◌, ◌≤◌, arith, read_by}
use Rattle.bit_slice_paths.specs.Steps.{groups}
use Rattle.bit_slice_paths.proofs.WalkLemmas.{copied_before, copied_more}
use Rattle.bit_slice_paths.proofs.StepLemmas.{takes_more, takes_as}
use Rattle.bit_slice_paths.proofs.by_words.copy_over.Goals as goal

pub up-preserved : goal.up-preserved
up-preserved g c =
    let reading = read_by g.R.BitRegister g.O.Positions.position in
    let k = c.up.k in
    let had = c.up.invariant.copied in
    record {
      copied =
          copied_more reading reading c.args.words.now c.up.words c.move_chunk.new.words c.args.words.now
          c.up.words c.args.target c.args.source (64 * k) 64 (64 * (k + 1)) (omega arith)
          (λ p past. had.above p (omega arith)) had c.move_chunk.ensures;
      steps = takes_more _ _ _ k c.step.ensures c.up.invariant.steps;
    }

pub down-preserved : goal.down-preserved
down-preserved g c =
    let reading = read_by g.R.BitRegister g.O.Positions.position in
    let k = c.down.k - 1 in
    let some : 0 < c.down.k = omega arith in
    let most : c.down.k ≤ c.args.len / 64 = omega arith in
    let next : 64 * c.down.k ≡ 64 * k + 64 = omega arith in
    let had = rw next at c.down.invariant.copied in
    let so_far = groups (c.args.len - 64 * c.down.k) 64 in
    let one_more : so_far + 1 ≡ groups (c.args.len - 64 * k) 64 = omega arith in
    record {
      copied =
          copied_before reading c.args.words.now c.down.words c.move_chunk-in-down.new.words c.args.source c.args.target
          (64 * k) 64 c.args.len (omega arith) (omega arith) had c.move_chunk-in-down.ensures;
      steps =
          takes_as c.args.steps.now _ _ _ one_more (takes_more _ _ _ so_far c.step-in-down.ensures c.down.invariant.steps);
    }

pub returns-after-up-clause-copied : goal.returns-after-up-clause-copied
returns-after-up-clause-copied g c =
    let reading = read_by g.R.BitRegister g.O.Positions.position in
    let whole : c.up.k ≡ c.args.len / 64 = omega arith in
    let had = rw whole at c.up.invariant.copied in
    let done = 64 * (c.args.len / 64) in
    copied_more reading reading c.args.words.now c.up.words c.copy_last.new.words c.args.words.now c.up.words
    c.args.target c.args.source done (c.args.len - done) c.args.len (omega arith) (λ p past. had.above p (omega arith)) had
    c.copy_last.ensures.copied

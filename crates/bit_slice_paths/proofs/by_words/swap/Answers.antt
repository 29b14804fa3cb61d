use Rattle.bit_addressing_memory.proofs.Common.{◌≡◌, ◌+◌, ◌*◌, ◌/◌, ◌%◌, arith, read_by}
use Rattle.bit_slice_paths.proofs.WalkLemmas.{copied_more}
use Rattle.bit_slice_paths.proofs.StepLemmas.{takes_more}
use Rattle.bit_slice_paths.proofs.by_words.swap.Goals as goal

pub loop-k-preserved : goal.loop-k-preserved
loop-k-preserved g c =
    let reading = read_by g.R.BitRegister g.O.Positions.position in
    let k = c.loop-k.k in
    let mine = c.loop-k.invariant.to_words in
    let its = c.loop-k.invariant.to_others in
    record {
      to_words =
          copied_more reading reading c.args.words.now c.loop-k.words c.swap_chunk.new.words c.args.others.now
          c.loop-k.others c.args.place c.args.other_place (64 * k) 64 (64 * (k + 1)) (omega arith)
          (λ p past. its.above p past) mine c.swap_chunk.ensures.to_words;
      to_others =
          copied_more reading reading c.args.others.now c.loop-k.others c.swap_chunk.new.others c.args.words.now
          c.loop-k.words c.args.other_place c.args.place (64 * k) 64 (64 * (k + 1)) (omega arith)
          (λ p past. mine.above p past) its c.swap_chunk.ensures.to_others;
      steps = takes_more _ _ _ k c.step.ensures c.loop-k.invariant.steps;
    }

pub returns-then-rest-gt0-clause-to_words : goal.returns-then-rest-gt0-clause-to_words
returns-then-rest-gt0-clause-to_words g c =
    let reading = read_by g.R.BitRegister g.O.Positions.position in
    let whole : c.loop-k.k ≡ c.args.len / 64 = omega arith in
    let mine = rw whole at c.loop-k.invariant.to_words in
    let its = rw whole at c.loop-k.invariant.to_others in
    copied_more reading reading c.args.words.now c.loop-k.words c.swap_rest.new.words c.args.others.now c.loop-k.others
    c.args.place c.args.other_place (64 * (c.args.len / 64)) (c.args.len % 64) c.args.len (omega arith)
    (λ p past. its.above p past) mine c.swap_rest.ensures.to_words

pub returns-then-rest-gt0-clause-to_others : goal.returns-then-rest-gt0-clause-to_others
returns-then-rest-gt0-clause-to_others g c =
    let reading = read_by g.R.BitRegister g.O.Positions.position in
    let whole : c.loop-k.k ≡ c.args.len / 64 = omega arith in
    let mine = rw whole at c.loop-k.invariant.to_words in
    let its = rw whole at c.loop-k.invariant.to_others in
    copied_more reading reading c.args.others.now c.loop-k.others c.swap_rest.new.others c.args.words.now c.loop-k.words
    c.args.other_place c.args.place (64 * (c.args.len / 64)) (c.args.len % 64) c.args.len (omega arith)
    (λ p past. mine.above p past) its c.swap_rest.ensures.to_others

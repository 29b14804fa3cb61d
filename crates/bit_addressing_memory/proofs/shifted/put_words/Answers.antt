use Rattle.bit_addressing_memory.proofs.Common.{arith, ◌≡◌, ◌+◌, ◌∙◌, ◌≤◌, read_by}
use Rattle.std.proofs.Math.Nat.{mul-le-mul_right}
use Rattle.bit_addressing_memory.proofs.Puts.{can_next, can_part, puts_three}
use Rattle.bit_addressing_memory.proofs.WayLemmas.{before_last, behind_first, by_way_low, by_way_sum}
use Rattle.bit_addressing_memory.proofs.shifted.put_words.Goals as goal

pub put_end-requires-clause-can : goal.put_end-requires-clause-can
put_end-requires-clause-can g c =
    let task = c.args.task in
    let head = c.by_way-head.result in
    let ends = by_way_low c.args.way c.args.first c.args.last c.requires.order in
    can_part g.R.BitRegister.BITS c.args.sweep.now task.source task.target task.len c.args.first (c.args.last + 1)
    head (head + 1) (omega (arith, c.by_way-head.ensures, ends.0)) (omega (arith, c.by_way-head.ensures, ends.1))
    c.requires.can

pub run_start-word-requires-clause-ends : goal.run_start-word-requires-clause-ends
run_start-word-requires-clause-ends g c =
    let next : c.args.first + 1 ≤ c.args.last = omega arith in
    omega (arith, mul-le-mul_right g.R.BitRegister.BITS next, c.requires.can.ends)

pub put_run-requires-clause-run : goal.put_run-requires-clause-run
put_run-requires-clause-run g c = record {
  order = omega arith;
  begins = omega (arith, c.requires.can.begins);
  ends = omega (arith, c.requires.can.ends);
  index = c.run_start-word.ensures.index;
  first = c.run_start-word.ensures.first;
}

pub put_run-requires-clause-can : goal.put_run-requires-clause-can
put_run-requires-clause-can g c =
    let task = c.args.task in
    let head = c.by_way-head.result in
    let first = c.args.first in
    let last = c.args.last in
    let had = c.put_end.ensures in
    can_next c.args.way g.R.BitRegister.BITS c.args.sweep.now c.put_end.new.sweep task.source task.target task.len
    first (last + 1) head (head + 1) (first + 1) last c.requires.way (omega arith) (omega arith)
    (behind_first c.args.way first last head c.by_way-head.ensures) c.requires.can had.way had.swept.words had.edge

pub put_end-requires-then-first-last-clause-can : goal.put_end-requires-then-first-last-clause-can
put_end-requires-then-first-last-clause-can g c =
    let task = c.args.task in
    let tail = c.by_way-tail.result in
    let first = c.args.first in
    let last = c.args.last in
    let had = c.put_run.ensures in
    let one = c.put_end.ensures in
    let ends = by_way_low c.args.way first last c.requires.order in
    let sum = by_way_sum c.args.way first last in
    can_next c.args.way g.R.BitRegister.BITS c.args.sweep.now c.put_run.new.sweep task.source task.target task.len
    first (last + 1) (first + 1) last tail (tail + 1) c.requires.way (omega (arith, c.by_way-tail.ensures, ends.1, sum))
    (omega (arith, c.by_way-tail.ensures, ends.0, sum)) (before_last c.args.way first last tail c.by_way-tail.ensures)
    c.requires.can (had.way ∙ one.way) (had.swept.words ∙ one.swept.words) had.edge

pub returns-then-first-last : goal.returns-then-first-last
returns-then-first-last g c =
    let task = c.args.task in
    puts_three c.args.way (read_by g.R.BitRegister g.O.Positions.position) 3 c.args.sweep.now c.put_end.new.sweep
    c.put_run.new.sweep c.put_end-then-first-last.new.sweep task.source task.target task.len c.args.first c.args.last
    c.requires.way c.requires.can.order (omega arith) (rw c.by_way-head.ensures at c.put_end.ensures) c.put_run.ensures
    (rw c.by_way-tail.ensures at c.put_end-then-first-last.ensures)

pub returns-else-first-last : goal.returns-else-first-last
returns-else-first-last g c =
    let ends = by_way_low c.args.way c.args.first c.args.last c.requires.order in
    let first : c.args.first ≡ c.by_way-head.result = omega (arith, c.by_way-head.ensures, ends.0, ends.1) in
    let last : c.args.last ≡ c.by_way-head.result = omega (arith, c.by_way-head.ensures, ends.0, ends.1) in
    rw (first, last) c.put_end.ensures

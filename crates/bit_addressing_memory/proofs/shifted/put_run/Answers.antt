use Rattle.bit_addressing_memory.proofs.Common.{arith, ◌≡◌, ◌+◌, ◌-◌, ◌∙◌, read_by}
use Rattle.bit_addressing_memory.specs.declared.sweep.Way.TheVariants.{Up, Down}
use Rattle.bit_addressing_memory.proofs.Puts.{can_next, puts_more}
use Rattle.bit_addressing_memory.proofs.ShiftedWords.{run_part}
use Rattle.bit_addressing_memory.proofs.shifted.put_run.Goals as goal

pub up-init : goal.up-init
up-init g c = rw c.in-Up.is at c.put_blocks-done.ensures.put

pub put_whole-requires-clause-run : goal.put_whole-requires-clause-run
put_whole-requires-clause-run g c =
    let task = c.args.task in
    run_part g.R.BitRegister.BITS task.source task.target task.len c.args.low c.args.high c.args.word c.args.by c.up.k
    (c.up.k + 1) (omega arith) (omega arith) (omega arith) c.requires.run

pub put_whole-requires-clause-can : goal.put_whole-requires-clause-can
put_whole-requires-clause-can g c =
    let task = c.args.task in
    let had = c.up.invariant in
    can_next Up g.R.BitRegister.BITS c.args.sweep.now c.up.sweep task.source task.target task.len c.args.low
    c.args.high c.args.low c.up.k c.up.k (c.up.k + 1) (c.requires.way ∙ c.in-Up.is) (omega arith) (omega arith)
    (omega arith) c.requires.can had.way had.swept.words had.edge

pub up-preserved : goal.up-preserved
up-preserved g c =
    let task = c.args.task in
    puts_more Up (read_by g.R.BitRegister g.O.Positions.position) 3 c.args.sweep.now c.up.sweep c.put_whole.new.sweep
    task.source task.target task.len c.args.low c.up.k (c.up.k + 1) (c.requires.way ∙ c.in-Up.is)
    c.requires.can.order (omega arith) (omega arith) c.up.invariant c.put_whole.ensures

pub down-init : goal.down-init
down-init g c = record {
  low = omega (arith, c.put_blocks-done.ensures.most);
  put = rw c.in-Down.is at c.put_blocks-done.ensures.put;
}

pub put_whole-requires-in-down-clause-run : goal.put_whole-requires-in-down-clause-run
put_whole-requires-in-down-clause-run g c =
    let task = c.args.task in
    let k = c.down.k - 1 in
    run_part g.R.BitRegister.BITS task.source task.target task.len c.args.low c.args.high c.args.word c.args.by k
    (k + 1) (omega arith) (omega arith) (omega arith) c.requires.run

pub put_whole-requires-in-down-clause-can : goal.put_whole-requires-in-down-clause-can
put_whole-requires-in-down-clause-can g c =
    let task = c.args.task in
    let had = c.down.invariant.put in
    let k = c.down.k - 1 in
    can_next Down g.R.BitRegister.BITS c.args.sweep.now c.down.sweep task.source task.target task.len c.args.low
    c.args.high c.down.k c.args.high k (k + 1) (c.requires.way ∙ c.in-Down.is) (omega arith) (omega arith) (omega arith)
    c.requires.can had.way had.swept.words had.edge

pub down-preserved : goal.down-preserved
down-preserved g c =
    let task = c.args.task in
    let k = c.down.k - 1 in
    let next : c.down.k ≡ k + 1 = omega arith in
    record {
      low = omega arith;
      put =
          puts_more Down (read_by g.R.BitRegister g.O.Positions.position) 3 c.args.sweep.now c.down.sweep
          c.put_whole-in-down.new.sweep task.source task.target task.len k (k + 1) c.args.high
          (c.requires.way ∙ c.in-Down.is) c.requires.can.order (omega arith) (omega arith)
          (rw next at c.down.invariant.put) c.put_whole-in-down.ensures;
    }

use Rattle.bit_addressing_memory.proofs.Common.{arith, ◌≡◌, ◌+◌, ◌-◌, sym, read_by}
use Rattle.bit_addressing_memory.proofs.Puts.{puts_none, puts_step}
use Rattle.bit_addressing_memory.proofs.moves.put_gathered.Goals as goal

pub loop-m-init : goal.loop-m-init
loop-m-init g c =
    let task = c.args.task in
    let none : c.args.last + 1 - (c.args.first - c.args.first) ≡ c.args.last + 1 = omega arith in
    rw none (puts_none c.way-way.result (read_by g.R.BitRegister g.O.Positions.position) (g.R.BitRegister.BITS + 1)
    c.args.sweep.now task.source task.target task.len c.args.first (c.args.last + 1) (sym c.way-way.ensures)
    c.requires.can)

pub put_word-requires : goal.put_word-requires
put_word-requires g c =
    let task = c.args.task in
    (puts_step c.way-way.result (read_by g.R.BitRegister g.O.Positions.position) (g.R.BitRegister.BITS + 1)
    c.args.sweep.now c.loop-m.sweep task.source task.target task.len c.args.first c.args.last c.loop-m.m c.by_way-k.result
    (sym c.way-way.ensures) (omega arith) (omega arith) c.by_way-k.ensures c.requires.can c.loop-m.invariant).0

pub loop-m-preserved : goal.loop-m-preserved
loop-m-preserved g c =
    let task = c.args.task in
    (puts_step c.way-way.result (read_by g.R.BitRegister g.O.Positions.position) (g.R.BitRegister.BITS + 1)
    c.args.sweep.now c.loop-m.sweep task.source task.target task.len c.args.first c.args.last c.loop-m.m c.by_way-k.result
    (sym c.way-way.ensures) (omega arith) (omega arith) c.by_way-k.ensures c.requires.can c.loop-m.invariant).1
    c.put_word.new.sweep c.put_word.ensures

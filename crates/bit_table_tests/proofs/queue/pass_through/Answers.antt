use Rattle.std.proofs.Common.{◌≡◌, ◌≤◌, refl, ◌∙◌, arith}
use Rattle.bit_table_tests.proofs.QueueLemmas.{insertion-same}
use Rattle.bit_table_tests.proofs.queue.pass_through.Goals as goal

pub loop-turn-init : goal.loop-turn-init
loop-turn-init g c = record { layout = refl; rows = refl; room = omega arith }

pub pass_one-requires : goal.pass_one-requires
pass_one-requires g c =
    let had = c.loop-turn.invariant in
    let same = insertion-same c.loop-turn.table.shape c.args.table.now.shape c.args.insertion.now c.requires.insertion
    had.layout had.rows in
    (omega arith, (c.requires.insertion, (same ∙ c.requires.accepted, omega (arith, had.room, c.requires.room))))

pub loop-turn-preserved : goal.loop-turn-preserved
loop-turn-preserved g c =
    let had = c.loop-turn.invariant in
    record {
      layout = c.pass_one.ensures.layout ∙ had.layout;
      rows = c.pass_one.ensures.rows ∙ had.rows;
      room = omega (arith, had.room, c.pass_one.ensures.room);
    }

pub returns-clause-layout : goal.returns-clause-layout
returns-clause-layout g c = c.loop-turn.invariant.layout

pub returns-clause-rows : goal.returns-clause-rows
returns-clause-rows g c = c.loop-turn.invariant.rows

pub returns-clause-room : goal.returns-clause-room
returns-clause-room g c = c.loop-turn.invariant.room

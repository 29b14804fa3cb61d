use Rattle.std.proofs.Common.{◌+◌, ◌-◌, ◌*◌, ◌<◌, arith}
use Rattle.bit_addressing_memory.specs.Memory.{read_by}
use Rattle.bit_addressing_memory.specs.Moves.{Moves}
use Rattle.bit_addressing_memory.specs.Sweep.{sweep_words}
use Rattle.bit_table_rows.proofs.RowLemmas.{row_moved}
use Rattle.bit_table_rows.proofs.rows.move_rows.Goals as goal

pub returns-clause-rows : goal.returns-clause-rows
returns-clause-rows g c =
    let reading = read_by g.T.BitRegister g.O.Positions.position in
    let before = sweep_words c.args.sweep.now in
    let after = sweep_words c.move_in.new.sweep in
    let some : 0 < g.T.BitRegister.BITS = omega (arith, g.met.T.BitRegister.least_bits) in
    let is : Moves reading before after (c.args.head + c.args.p * c.args.w) (c.args.head + c.args.q * c.args.w)
    ((c.args.n - c.args.p) * c.args.w) = rw (← c.into_inner-first.ensures.value) c.move_in.ensures.moved in
    λ k low. row_moved reading before after c.args.head c.args.p c.args.q c.args.n c.args.w some c.requires.order
    c.requires.rows_within c.requires.target_within is k low

use Rattle.std.proofs.Common.{arith, ◌<◌}
use Rattle.bit_addressing_memory.specs.Memory.{read_by}
use Rattle.bit_addressing_memory.specs.Sweep.{sweep_words}
use Rattle.bit_slice_views.specs.View.{view_bits}
use Rattle.bit_table_rows.proofs.KeepRowLemmas.{kept_list}
use Rattle.bit_table_rows.proofs.keep.keep_rows.Goals as goal

pub returns-clause-list : goal.returns-clause-list
returns-clause-list g c len rows within =
    let reading = read_by g.T.BitRegister g.O.Positions.position in
    let off = view_bits reading c.args.off in
    let before = sweep_words c.args.sweep.now in
    let after = sweep_words c.keep_counted.new.sweep in
    let some : 0 < reading.bits = omega (arith, g.met.T.BitRegister.least_bits) in
    kept_list reading before after c.args.head len c.args.w off some (rw c.requires.flags rows) within
    c.keep_counted.ensures.rows

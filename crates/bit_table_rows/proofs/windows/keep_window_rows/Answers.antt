use Rattle.std.proofs.Common.{rules, ◌<◌, arith}
use Rattle.bit_addressing_memory.specs.Memory.{read_by}
use Rattle.bit_slice_views.specs.View.{view_bits}
use Rattle.bit_slice_views_mut.specs.Frame.{KeepsBeside}
use Rattle.bit_table_rows.specs.RowsKept.{KeepsRows}
use Rattle.bit_table_rows.proofs.KeepRowLemmas.{kept_list}
use Rattle.bit_table_rows.proofs.KeptRowLemmas.{kept_beside}
use Rattle.bit_table_rows.proofs.windows.keep_window_rows.Goals as goal

pub returns-clause-beside : goal.returns-clause-beside
returns-clause-beside g c =
    let reading = read_by g.R.BitRegister g.O.Positions.position in
    let before = c.args.words.now in
    let after = c.keep_in.new.words in
    let off = view_bits reading c.from_parts-off.result in
    let rows : KeepsRows reading before after c.args.place c.args.w off = c.keep_in.ensures.rows in
    let beside : KeepsBeside reading before after c.args.place c.args.len =
    kept_beside reading before after c.args.place c.args.len c.args.n c.args.w off c.from_parts-off.ensures.len
    c.requires.rows rows in
    search (rules, beside)

pub returns-clause-list : goal.returns-clause-list
returns-clause-list g c =
    let reading = read_by g.R.BitRegister g.O.Positions.position in
    let before = c.args.words.now in
    let after = c.keep_in.new.words in
    let off = view_bits reading c.from_parts-off.result in
    let some : 0 < reading.bits = omega (arith, g.met.R.BitRegister.least_bits) in
    let rows : KeepsRows reading before after c.args.place c.args.w off = c.keep_in.ensures.rows in
    let list = kept_list reading before after c.args.place c.args.len c.args.w off some
    (rw c.from_parts-off.ensures.len c.requires.rows) c.requires.within rows in
    search (rules, list)

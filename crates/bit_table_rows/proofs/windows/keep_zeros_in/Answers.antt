use Rattle.std.proofs.Common.{rules, ◌*◌, sym, subst, true}
use Rattle.bit_addressing_memory.specs.Memory.{read_by}
use Rattle.bit_addressing_memory.specs.Sweep.{sweep_words}
use Rattle.bit_slice_views.specs.View.{view_bits}
use Rattle.bit_slice_words.specs.Stretch.{bit_found, Nowhere}
use Rattle.bit_table_rows.specs.RowsKept.{KeepsRows}
use Rattle.bit_table_rows.proofs.windows.keep_zeros_in.Goals as goal

pub keep_zeros-requires-clause-zeros : goal.keep_zeros-requires-clause-zeros
keep_zeros-requires-clause-zeros g c =
    let reading = read_by g.R.BitRegister g.O.Positions.position in
    subst (λ ws. Nowhere (bit_found reading ws true) 0 (c.args.count * reading.bits)) (sym c.new-sweep.ensures.words)
    c.requires.zeros

pub returns-clause-rows : goal.returns-clause-rows
returns-clause-rows g c =
    let reading = read_by g.R.BitRegister g.O.Positions.position in
    let rows : KeepsRows reading c.args.words.now (sweep_words c.keep_zeros.new.sweep) c.args.place c.args.w
    (view_bits reading c.args.off) = rw c.new-sweep.ensures.words at c.keep_zeros.ensures.rows in
    search (rules, rows)

use Rattle.std.proofs.Common.{take, ap, ◌∙◌, arith}
use Rattle.bit_table_layout.specs.Layouts.{row_width}
use Rattle.bit_table_layout.specs.Rows.{numbers_bits}
use Rattle.bit_table_layout.proofs.ReadingLemmas.{length-numbers_bits}
use Rattle.bit_table_script.proofs.TableLemmas.{first_written}
use Rattle.bit_table_script.proofs.table.row_of.Goals as goal

pub store_row-requires-clause-within : goal.store_row-requires-clause-within
store_row-requires-clause-within g c =
    omega (arith, c.len-bits.ensures.value, c.len-bits.ensures.count, c.requires.buffer, c.requires.narrow)

pub returns-clause-len : goal.returns-clause-len
returns-clause-len g c =
    omega (arith, c.store_row.ensures.len, c.len-bits.ensures.value, c.len-bits.ensures.count, c.requires.buffer)

pub returns-clause-bits : goal.returns-clause-bits
returns-clause-bits g c =
    let l = c.args.layout.now in
    ap (take (row_width l.fields)) c.store_row.ensures.bits
    ∙ first_written _ (numbers_bits l.rule l.fields c.args.values.now) (row_width l.fields)
    (length-numbers_bits l.rule l.fields c.args.values.now c.requires.taken)

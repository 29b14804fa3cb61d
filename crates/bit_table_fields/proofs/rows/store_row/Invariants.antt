use Rattle.std.proofs.Common.{◌≡◌, ◌+◌, length, take}
use Rattle.bit_addressing_memory.specs.Memory.{with_piece}
use Rattle.bit_slice_words.specs.Steps.{Takes}
use Rattle.bit_table_layout.specs.Layouts.{row_width}
use Rattle.bit_table_layout.specs.Rows.{numbers_bits}
use Rattle.bit_table_fields.proofs.rows.store_row.Given as goal

abbrev pub invariant-loop-index : goal.invariant-loop-index
invariant-loop-index g l = record {
  at : l.place ≡ l.at + row_width (take l.index l.fields);
  bits : g.V.Bits.bits l.view
      ≡ with_piece (g.V.Bits.bits l.fn.view) l.at (numbers_bits l.rule (take l.index l.fields) (take l.index l.values));
  len : length (g.V.Bits.bits l.view) ≡ length (g.V.Bits.bits l.fn.view);
  frame : g.V.BitsMut.frame l.view ≡ g.V.BitsMut.frame l.fn.view;
  steps : Takes l.fn.steps l.steps l.index (row_width (take l.index l.fields));
}

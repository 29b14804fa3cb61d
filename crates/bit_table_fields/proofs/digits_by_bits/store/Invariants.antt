use Rattle.std.proofs.Common.{◌≡◌, length, take}
use Rattle.bit_addressing_memory.specs.Memory.{with_piece}
use Rattle.bit_slice_words.specs.Steps.{Takes}
use Rattle.bit_table_layout.specs.Rows.{field_bits}
use Rattle.bit_table_fields.proofs.digits_by_bits.store.Given as goal

abbrev pub invariant-loop-k : goal.invariant-loop-k
invariant-loop-k g l = record {
  bits : g.V.Bits.bits l.view
      ≡ with_piece (g.V.Bits.bits l.fn.view) l.at (take l.k (field_bits l.rule l.width l.value));
  len : length (g.V.Bits.bits l.view) ≡ length (g.V.Bits.bits l.fn.view);
  frame : g.V.BitsMut.frame l.view ≡ g.V.BitsMut.frame l.fn.view;
  steps : Takes l.fn.steps l.steps l.k l.k;
}

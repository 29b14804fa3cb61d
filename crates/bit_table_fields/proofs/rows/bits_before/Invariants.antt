use Rattle.std.proofs.Common.{◌≡◌, take}
use Rattle.bit_table_layout.specs.Layouts.{row_width}
use Rattle.bit_table_fields.proofs.rows.bits_before.Given as goal

abbrev pub invariant-loop-index : goal.invariant-loop-index
invariant-loop-index l = l.bits ≡ row_width (take l.index l.fields)

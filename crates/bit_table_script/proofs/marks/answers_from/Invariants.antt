use Rattle.std.proofs.Common.{◌+◌, ◌*◌}
use Rattle.bit_addressing_memory.specs.Memory.{piece, read_by}
use Rattle.bit_slice_views.specs.View.{view_bits}
use Rattle.bit_table_commands.specs.Marks.{passes}
use Rattle.bit_table_fields.specs.Windows.{number_held}
use Rattle.bit_table_script.specs.Told.{AreDigits}
use Rattle.bit_table_script.proofs.marks.answers_from.Given as goal

abbrev pub invariant-loop-k : goal.invariant-loop-k
invariant-loop-k g l =
    let held = view_bits (read_by g.T.BitRegister g.O.Positions.position) l.bits in
    AreDigits (λ k. passes l.test (number_held l.column.rule l.column.signed l.column.digits
    (piece held (l.place + k * l.column.stride) l.column.digits)) l.value) l.k l.answers

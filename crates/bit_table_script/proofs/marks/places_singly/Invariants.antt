use Rattle.std.proofs.Common.{◌≡◌, take}
use Rattle.bit_addressing_memory.specs.Memory.{read_by}
use Rattle.bit_slice_views.specs.View.{view_bits}
use Rattle.bit_table_script.specs.Told.{ones_from}
use Rattle.bit_table_script.proofs.marks.places_singly.Given as goal

abbrev pub invariant-loop-place : goal.invariant-loop-place
invariant-loop-place g l =
    l.places.items ≡ ones_from 0 (take l.place (view_bits (read_by g.T.BitRegister g.O.Positions.position) l.bits))

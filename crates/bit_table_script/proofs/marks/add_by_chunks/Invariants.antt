use Rattle.std.proofs.Common.{◌≡◌, ◌*◌, take}
use Rattle.bit_addressing_memory.specs.Memory.{read_by}
use Rattle.bit_slice_views.specs.View.{view_bits}
use Rattle.bit_table_script.specs.Told.{ones_from}
use Rattle.bit_table_script.proofs.marks.add_by_chunks.Given as goal

abbrev pub invariant-loop-k : goal.invariant-loop-k
invariant-loop-k g l =
    l.places.items ≡ ones_from 0 (take (64 * l.k) (view_bits (read_by g.T.BitRegister g.O.Positions.position) l.bits))

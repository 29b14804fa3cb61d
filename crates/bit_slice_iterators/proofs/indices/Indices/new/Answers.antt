use Rattle.std.proofs.Common.{◌++◌, ap}
use Rattle.bit_addressing_memory.specs.Memory.{read_by}
use Rattle.bit_slice_views.specs.Found.{is_bit}
use Rattle.bit_slice_views.specs.View.{view_bits}
use Rattle.bit_slice_iterators.specs.Indices.{indices}
use Rattle.bit_slice_iterators.proofs.HeldLemmas.{held_none}
use Rattle.bit_slice_iterators.proofs.indices.Indices.new.Goals as goal

pub returns : goal.returns
returns g c =
    let bits = view_bits (read_by g.T.BitRegister g.O.Positions.position) c.args.view in
    ap (λ l. l ++ indices (is_bit g.B.Sought.bit) 0 bits) (held_none 0)

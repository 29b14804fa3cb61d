use Rattle.bit_addressing_memory.specs.Memory.{read_by}
use Rattle.bit_slice_views.specs.Found.{is_bit}
use Rattle.bit_slice_views.specs.View.{view_bits}
use Rattle.bit_slice_iterators.proofs.HeldLemmas.{faced_digits}
use Rattle.bit_slice_iterators.proofs.indices.digits_ahead.Goals as goal

pub returns-in-Some : goal.returns-in-Some
returns-in-Some g c =
    faced_digits c.direction_for-way.result (is_bit g.B.Sought.bit)
    (view_bits (read_by g.T.BitRegister g.O.Positions.position) c.args.view) 0 c.in-Some.chunk c.ascending.result
    c.in-Some.ensures c.ascending.ensures

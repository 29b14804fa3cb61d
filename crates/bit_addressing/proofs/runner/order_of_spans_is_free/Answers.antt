use Rattle.std.proofs.Common.{◌<◌, arith}
use Rattle.bit_addressing_memory.specs.Memory.{read_by}
use Rattle.bit_addressing.proofs.RunLemmas.{order_is_free}
use Rattle.bit_addressing.proofs.runner.order_of_spans_is_free.Goals as goal

pub returns : goal.returns
returns g c =
    let b = g.R.BitRegister.BITS in
    let some : 0 < b = omega (arith, g.met.R.BitRegister.least_bits) in
    order_is_free (read_by g.R.BitRegister g.O.Positions.position) some

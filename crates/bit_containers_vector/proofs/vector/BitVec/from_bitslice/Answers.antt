use Rattle.std.proofs.Common.{◌<◌}
use Rattle.std.proofs.Common.{arith}
use Rattle.bit_addressing_memory.specs.Memory.{read_by}
use Rattle.bit_containers_vector.proofs.MadeLemmas.{holds_copy}
use Rattle.bit_containers_vector.proofs.ZeroLemmas.{zero_digit}
use Rattle.bit_containers_vector.proofs.vector.BitVec.from_bitslice.Goals as goal

pub returns : goal.returns
returns g c =
    let reading = read_by g.T.BitRegister g.O.Positions.position in
    let some : 0 < g.T.BitRegister.BITS = omega (arith, g.met.T.BitRegister.least_bits) in
    let view = c.args.view in
    let made = (c.in_ok-made.ensures) in
    let parts = c.parts-head in
    holds_copy reading reading g.T.BitRegister.ZERO _ (c.in_ok-made.made).words.items
    (parts.result.0).now parts.result.1 parts.result.1 parts.result.2 view.head _ some
    some
    (zero_digit g.T.BitRegister.number g.O.Positions.position g.T.BitRegister.ZERO g.met.T.BitRegister.zero_is)
    made.words made.head made.len parts.ensures.bits parts.ensures.fits c.copy.ensures.copied parts.ensures.head

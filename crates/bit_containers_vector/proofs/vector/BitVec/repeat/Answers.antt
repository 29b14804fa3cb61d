use Rattle.std.proofs.Common.{◌*◌, ap₂}
use Rattle.std.proofs.Common.{arith}
use Rattle.bit_addressing_memory.specs.Memory.{read_by}
use Rattle.bit_containers_vector.proofs.MadeLemmas.{filled_all}
use Rattle.bit_containers_vector.proofs.vector.BitVec.repeat.Goals as goal

pub returns : goal.returns
returns g c =
    let reading = read_by g.T.BitRegister g.O.Positions.position in
    let made = (c.in_ok-made.ensures) in
    filled_all reading g.T.BitRegister.ZERO _ (c.in_ok-made.made).words.items c.args.len _ c.args.bit
    (omega (arith, g.met.T.BitRegister.least_bits)) made.head made.len made.words
    (ap₂ (λ k b. k * b) c.words_taken.ensures c.bits_of.ensures) c.fill.ensures.filled

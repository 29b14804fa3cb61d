use Rattle.std.proofs.Common.{◌*◌, length, arith, ap}
use Rattle.bit_addressing_memory.specs.Memory.{read_by}
use Rattle.bit_containers_box.proofs.FillLemmas.{flipped_all}
use Rattle.bit_containers_box.proofs.words.flip_all.Goals as goal

pub returns-clause-flipped : goal.returns-clause-flipped
returns-clause-flipped g c =
    let words = c.args.words.now in
    flipped_all (read_by g.T.BitRegister g.O.Positions.position) words c.not_in.new.words
    (length words * c.bits_of.result) (omega (arith, g.met.T.BitRegister.least_bits))
    (ap (λ b. length words * b) c.bits_of.ensures) c.not_in.ensures.flipped

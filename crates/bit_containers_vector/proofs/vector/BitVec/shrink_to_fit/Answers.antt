use Rattle.std.proofs.Common.{take, ap, ◌∙◌}
use Rattle.std.proofs.Common.{arith, refl}
use Rattle.bit_addressing_memory.specs.Memory.{read_by}
use Rattle.bit_containers_vector.proofs.WordLemmas.{trimmed_same}
use Rattle.bit_containers_vector.proofs.vector.BitVec.shrink_to_fit.Goals as goal

pub returns-clause-same : goal.returns-clause-same
returns-clause-same g c =
    let v = c.args.self.now in
    trimmed_same (read_by g.T.BitRegister g.O.Positions.position) v _ (omega (arith, g.met.T.BitRegister.least_bits))
    v.fits refl refl
    (c.shrink_to_fit.ensures.items ∙ c.truncate.ensures.items
    ∙ ap (λ k. take k v.words.items) c.words_taken.ensures)

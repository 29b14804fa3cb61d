use Rattle.std.proofs.Common.{◌+◌, take, ap, sym, ◌∙◌}
use Rattle.bit_addressing_memory.specs.Memory.{read_by}
use Rattle.bit_containers_vector.specs.Count.{words_for}
use Rattle.bit_containers_vector.proofs.WordLemmas.{length-bits}
use Rattle.bit_containers_vector.proofs.vector.BitVec.into_vec.Goals as goal

pub returns-clause-items : goal.returns-clause-items
returns-clause-items g c =
    let v = c.args.self in
    let size = length-bits (read_by g.T.BitRegister g.O.Positions.position) v v.fits in
    c.truncate.ensures.items ∙ ap (λ k. take k v.words.items) c.words_taken-count.ensures
    ∙ ap (λ k. take (words_for g.T.BitRegister.BITS (v.head + k)) v.words.items) (sym size)

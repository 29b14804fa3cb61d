use Rattle.bit_containers_vector.proofs.GatherLemmas.{gathers_piece}
use Rattle.bit_containers_vector.proofs.vector.BitVec.extend_from_digits.Goals as goal

pub returns-clause-ok : goal.returns-clause-ok
returns-clause-ok g c = λ xs has.
    rw (c.from_ref.ensures.value, gathers_piece c.args.number c.args.count xs c.requires.few has)
    at (c.in_ok-extend_from_words.ensures).ok

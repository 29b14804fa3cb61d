use Rattle.std.proofs.Common.{arith}
use Rattle.number_set.specs.Held.{words}
use Rattle.bit_containers.specs.Vector.{vec_bits}
use Rattle.number_set.proofs.HeldLemmas.{not_there}
use Rattle.number_set.proofs.numbers.NumberSet.remove.Goals as goal

pub returns-else-number-len-clause-set : goal.returns-else-number-len-clause-set
returns-else-number-len-clause-set c =
    not_there (vec_bits words c.self.inside.bits) c.args.self.now c.self.view_is c.args.number c.len.result
    c.len.ensures (omega (arith, c.if-number-len.false))

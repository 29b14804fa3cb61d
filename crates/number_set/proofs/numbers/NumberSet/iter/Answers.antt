use Rattle.number_set.specs.Held.{words}
use Rattle.bit_containers.specs.Vector.{vec_bits}
use Rattle.number_set.proofs.HeldLemmas.{listed_is}
use Rattle.number_set.proofs.numbers.NumberSet.iter.Goals as goal

pub returns : goal.returns
returns c =
    listed_is (vec_bits words c.self.inside.bits) c.args.self.now c.self.view_is c.iter_ones.result c.iter_ones.ensures

use Rattle.std.proofs.Common.{refl}
use Rattle.number_set.specs.Held.{words}
use Rattle.bit_containers.specs.Vector.{vec_bits}
use Rattle.number_set.proofs.HeldLemmas.{len_is}
use Rattle.number_set.proofs.numbers.NumberSet.len.Goals as goal

pub returns : goal.returns
returns c =
    let bits = vec_bits words c.self.inside.bits in
    len_is bits c.args.self.now c.self.view_is bits refl c.count_ones.result c.count_ones.ensures

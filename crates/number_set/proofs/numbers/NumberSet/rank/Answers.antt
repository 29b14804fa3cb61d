use Rattle.number_set.specs.Held.{words}
use Rattle.bit_containers.specs.Vector.{vec_bits}
use Rattle.bit_containers.specs.View.{view_bits}
use Rattle.number_set.proofs.HeldLemmas.{rank_counted}
use Rattle.number_set.proofs.numbers.NumberSet.rank.Goals as goal

pub returns : goal.returns
returns c =
    rank_counted (vec_bits words c.self.inside.bits) c.args.self.now c.self.view_is
    (view_bits words c.as_bitslice-bits.result) c.as_bitslice-bits.ensures.bits c.count_ones.result c.args.end
    c.min.result c.len.result (view_bits words c.part.result) c.count_ones.ensures c.part.ensures.bits c.min.ensures
    c.len.ensures

use Rattle.std.proofs.Common.{arith}
use Rattle.bit_containers.proofs.CallerLemmas.{vec_short}
use Rattle.number_set.specs.Held.{words}
use Rattle.number_set.proofs.numbers.NumberSet.union_with.Goals as goal

-- a list of bits is never longer than the most that there may be
pub lengthen-requires : goal.lengthen-requires
lengthen-requires c = omega (arith, c.len.ensures, vec_short words c.other.inside.bits)

use Rattle.std.proofs.Common.{◌≡◌, ◌+◌, ◌<◌, ◌≤◌, length}
use Rattle.number_set.specs.Held.{words}
use Rattle.bit_containers.specs.View.{view_bits}
use Rattle.bit_containers.proofs.OnesLemmas.{ones_in}
use Rattle.number_set.proofs.numbers.one_at.Given as goal

abbrev pub invariant-loop-len : goal.invariant-loop-len
invariant-loop-len l =
    let bits = view_bits words l.fn.bits in
    (l.from + l.len ≤ length bits) × (ones_in bits l.from + l.left ≡ l.ones)
    × (l.ones < ones_in bits (l.from + l.len))

abbrev pub decreases-loop-len : goal.decreases-loop-len
decreases-loop-len l = l.len

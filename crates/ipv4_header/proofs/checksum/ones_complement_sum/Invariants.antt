use Rattle.std.proofs.Common.{◌≡◌, ◌+◌, ◌^◌, ◌<◌, length, sum}
use Rattle.ipv4_header.specs.Checksum.{carried_around, words_of, ones_sum}
use Rattle.ipv4_header.proofs.checksum.ones_complement_sum.Given as goal

abbrev pub invariant-loop-rest : goal.invariant-loop-rest
invariant-loop-rest l = record {
  summed : carried_around (l.sum + sum (words_of l.rest)) ≡ ones_sum l.fn.bytes;
  word : l.sum < 2 ^ 16;
}

abbrev pub decreases-loop-rest : goal.decreases-loop-rest
decreases-loop-rest l = length l.rest

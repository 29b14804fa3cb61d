use Rattle.std.proofs.Common.{ℕ, ◌<◌}
use Rattle.bit_addressing.specs.Runs.{span_at, IsOutside}
use Rattle.register_map.proofs.map.owner_among.Given as goal

abbrev pub invariant-loop-number : goal.invariant-loop-number
invariant-loop-number l = (d : ℕ) → d < l.number → IsOutside 32 (span_at l.spans d) l.place

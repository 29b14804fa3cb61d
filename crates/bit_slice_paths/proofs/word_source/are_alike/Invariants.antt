use Rattle.std.proofs.Common.{◌≡◌, ℕ, ◌<◌}
use Rattle.bit_slice_paths.proofs.word_source.are_alike.Given as goal

abbrev pub invariant-loop-index : goal.invariant-loop-index
invariant-loop-index g l = (i : ℕ) → i < l.index → g.P.Positions.position i ≡ g.O.Positions.position i

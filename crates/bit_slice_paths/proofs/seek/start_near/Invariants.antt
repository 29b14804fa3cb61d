use Rattle.bit_addressing_memory.proofs.Common.{ℕ, ◌+◌, ◌<◌, read_by}
use Rattle.bit_slice_paths.specs.Agrees.{AreSame}
use Rattle.bit_slice_paths.proofs.seek.start_near.Given as goal

-- they stand at none of the places so far
abbrev pub invariant-loop-i : goal.invariant-loop-i
invariant-loop-i g l =
    (k : ℕ) → k < l.i
    → AreSame (read_by g.R.BitRegister g.O.Positions.position) l.words (l.place + k)
    (read_by g.Q.BitRegister g.P.Positions.position) l.others l.other_place l.len → ⊥

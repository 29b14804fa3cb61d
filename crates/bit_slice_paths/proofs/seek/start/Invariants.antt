use Rattle.bit_addressing_memory.proofs.Common.{ℕ, ◌+◌, ◌*◌, ◌<◌, min, read_by}
use Rattle.bit_slice_paths.specs.Agrees.{AreSame}
use Rattle.bit_slice_paths.proofs.seek.start.Given as goal

-- they stand at none of the places so far
abbrev pub invariant-loop-k : goal.invariant-loop-k
invariant-loop-k g l =
    (i : ℕ) → i < min l.starts (33 * l.k)
    → AreSame (read_by g.R.BitRegister g.O.Positions.position) l.words (l.place + i)
    (read_by g.Q.BitRegister g.P.Positions.position) l.others l.other_place l.len → ⊥

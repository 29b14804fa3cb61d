use Rattle.bit_addressing_memory.proofs.Common.{◌≡◌, ◌+◌, ◌≤◌, length, read_by}
use Rattle.bit_slice_paths.proofs.RotationLemmas.{Rotates}
use Rattle.bit_slice_paths.proofs.rotation.rotate.Given as goal

-- what rotates the bits that are left rotates all
abbrev pub invariant-loop-right : goal.invariant-loop-right
invariant-loop-right g l =
    let reading = read_by g.R.BitRegister g.O.Positions.position in
    record {
      rest : (after : _) → Rotates reading l.words after l.first (l.left + l.right) l.left
          → Rotates reading l.fn.words after l.place l.len l.by;
      inside : l.first + (l.left + l.right) ≤ l.place + l.len;
      words : length l.words ≡ length l.fn.words;
    }

abbrev pub decreases-loop-right : goal.decreases-loop-right
decreases-loop-right g l = l.left + l.right

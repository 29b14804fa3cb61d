use Rattle.bit_addressing_memory.proofs.Common.{◌*◌, read_by}
use Rattle.bit_slice_paths.proofs.RotationLemmas.{Rotates}
use Rattle.bit_slice_paths.specs.Rotations.{to_start}
use Rattle.bit_slice_paths.proofs.rotation.move_towards.Given as goal

abbrev pub invariant-loop-k : goal.invariant-loop-k
invariant-loop-k g l =
    Rotates (read_by g.R.BitRegister g.O.Positions.position) l.fn.words l.words l.place l.len
    (to_start l.end l.len (64 * l.k))

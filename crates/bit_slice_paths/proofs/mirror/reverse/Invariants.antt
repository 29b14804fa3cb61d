use Rattle.bit_addressing_memory.proofs.Common.{◌*◌, read_by}
use Rattle.bit_slice_paths.specs.Mirrored.{Mirrored}
use Rattle.bit_slice_paths.proofs.mirror.reverse.Given as goal

abbrev pub invariant-loop-k : goal.invariant-loop-k
invariant-loop-k g l =
    Mirrored (read_by g.R.BitRegister g.O.Positions.position) l.fn.words l.words l.place l.len (64 * l.k)

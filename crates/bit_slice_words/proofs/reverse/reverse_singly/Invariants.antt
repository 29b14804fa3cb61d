use Rattle.bit_addressing_memory.specs.Memory.{read_by}
use Rattle.bit_slice_paths.specs.Mirrored.{Mirrored}
use Rattle.bit_slice_words.proofs.reverse.reverse_singly.Given as goal

abbrev pub invariant-loop-k : goal.invariant-loop-k
invariant-loop-k g l =
    Mirrored (read_by g.R.BitRegister g.O.Positions.position) l.fn.words l.words l.place l.len l.k

use Rattle.bit_addressing_memory.proofs.Common.{◌≡◌, ◌*◌, count_by, memory, piece, read_by}
use Rattle.bit_slice_words.proofs.count.ones_of_blocks.Given as goal

-- the ones so far
abbrev pub invariant-loop-k : goal.invariant-loop-k
invariant-loop-k g l =
    l.ones ≡ count_by (λ b. b) (piece (memory (read_by g.R.BitRegister g.O.Positions.position) l.words) 0 (64 * l.k))

use Rattle.bit_addressing_memory.proofs.Common.{◌+◌, ◌*◌, read_by}
use Rattle.bit_addressing_memory.specs.Chunk.{ReadTo}
use Rattle.bit_addressing_memory.proofs.blocks.read_block.Given as goal

abbrev pub invariant-loop-k : goal.invariant-loop-k
invariant-loop-k g l =
    ReadTo (read_by g.R.BitRegister g.O.Positions.position) l.words (l.first * g.R.BitRegister.BITS) 64
    ((l.first + l.k) * g.R.BitRegister.BITS) l.straight.direction l.chunk

use Rattle.bit_addressing_memory.proofs.Common.{◌≡◌, ◌-◌, ◌*◌, read_by}
use Rattle.bit_addressing_memory.specs.Chunk.{ReadTo}
use Rattle.bit_addressing_memory.proofs.transfer.read_counted.Given as goal

abbrev pub invariant-loop-k : goal.invariant-loop-k
invariant-loop-k g l = record {
  chunk : ReadTo (read_by g.R.BitRegister g.O.Positions.position) l.words l.place l.count (l.k * g.R.BitRegister.BITS)
      l.direction l.chunk;
  reads : l.reads ≡ l.k - l.first;
}

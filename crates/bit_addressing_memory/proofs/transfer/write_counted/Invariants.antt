use Rattle.bit_addressing_memory.proofs.Common.{◌≡◌, ◌-◌, ◌*◌, min, read_by, Overwrites}
use Rattle.bit_addressing_memory.specs.Chunk.{chunk_bit}
use Rattle.bit_addressing_memory.proofs.transfer.write_counted.Given as goal

abbrev pub invariant-loop-k : goal.invariant-loop-k
invariant-loop-k g l = record {
  bits : Overwrites (read_by g.R.BitRegister g.O.Positions.position) l.fn.words l.words l.place
      (min l.count (l.k * g.R.BitRegister.BITS - l.place)) (chunk_bit l.direction l.chunk);
  writes : l.writes ≡ l.k - l.first;
}

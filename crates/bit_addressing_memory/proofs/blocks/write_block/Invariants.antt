use Rattle.bit_addressing_memory.proofs.Common.{ℕ, List, ◌+◌, ◌*◌, ◌≤◌, read_by, Overwrites}
use Rattle.bit_addressing_memory.specs.Chunk.{chunk_bit}
use Rattle.bit_addressing_memory.specs.Moves.{changed}
use Rattle.bit_addressing_memory.proofs.blocks.write_block.Given as goal

abbrev pub invariant-loop-k : goal.invariant-loop-k
invariant-loop-k g l = record {
  bits : Overwrites (read_by g.R.BitRegister g.O.Positions.position) l.fn.words l.words (l.first * g.R.BitRegister.BITS)
      (l.k * g.R.BitRegister.BITS) (chunk_bit l.straight.direction l.chunk);
  few : (number : g.row.R.Denot → ℕ) → (others : List g.row.R.Denot)
      → changed number others l.words ≤ changed number others l.fn.words + l.k;
}

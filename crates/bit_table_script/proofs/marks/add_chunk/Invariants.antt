use Rattle.std.proofs.Common.{◌≡◌, ◌+◌, Bool, List, take}
use Rattle.bit_slice_chunks.specs.Chunk.{chunk_bit}
use Rattle.bit_table_script.specs.Told.{ones_from, HasChunk}
use Rattle.bit_table_script.proofs.marks.add_chunk.Given as goal

abbrev pub invariant-loop-index : goal.invariant-loop-index
invariant-loop-index l =
    (bits : List Bool) → HasChunk bits l.first l.count (chunk_bit l.direction l.chunk)
    → l.fn.places.items ≡ ones_from 0 (take l.first bits)
    → l.places.items ≡ ones_from 0 (take (l.first + l.index) bits)

-- Numbers of windows in chunks. No public clause cites this module.
use Rattle.std.specs.Prelude.{ℕ, ℤ, ◌≡◌, ◌<◌}
use Rattle.bit_addressing_memory.specs.declared.direction.Direction.{Direction}
use Rattle.bit_addressing_memory.specs.declared.direction.Direction.TheVariants.{Ascending, Descending}
use Rattle.bit_slice_chunks.specs.Chunk.{chunk_bit}
use Rattle.bit_table_fields.specs.Places.{digit_place}
use Rattle.bit_table_layout.specs.declared.layout.Rule.{Rule}
use Rattle.bit_table_layout.specs.declared.layout.Rule.TheVariants.{Low, High}
use Rattle.bit_table_layout.specs.Digits.{has_digit}

-- the direction in which the digits of a rule lie in a chunk as they do in a number
abbrev pub rule_way : Rule → Direction
rule_way Low = Ascending
rule_way High = Descending

-- the first n bits of the chunk of that direction are those of a field that has the number v
abbrev pub ChunkOf : Rule → ℕ → ℤ → ℕ → Type 0
ChunkOf rule n v chunk = (k : ℕ) → k < n → chunk_bit (rule_way rule) chunk k ≡ has_digit v (digit_place rule n k)

-- The names of these specifications that most clauses cite, passed on from one place. Declares nothing.
pub use Rattle.bit_addressing_memory.specs.Memory.{Reading, read_by, digits, indexed, entry, memory, piece, touched}
pub use Rattle.bit_addressing_memory.specs.Memory.{Writes, Overwrites, Copies, Swaps}
pub use Rattle.bit_addressing_memory.specs.Partial.{part_mask, IsMasked, IsStored, ReadsPart}
pub use Rattle.bit_addressing_memory.specs.Lies.{Lies}

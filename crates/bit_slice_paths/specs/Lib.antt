pub mod Agrees
pub mod Fits
pub mod Mirrored
pub mod Rotations
pub mod Steps
pub mod WholeWords
-- what public clauses cite of the crates below
pub use Rattle.bit_addressing_memory.specs.BitOrder
pub use Rattle.bit_addressing_memory.specs.BitRegister
pub use Rattle.bit_addressing_memory.specs.Bits
pub use Rattle.bit_addressing_memory.specs.Memory
pub use Rattle.bit_addressing_memory.specs.Straight
pub use Rattle.bit_slice_chunks.specs.Chunk
pub use Rattle.bit_slice_chunks.specs.Combined

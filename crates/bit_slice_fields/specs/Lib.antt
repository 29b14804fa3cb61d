pub mod Digits
pub mod Number
pub mod Pieces
pub mod Segments
pub mod Whole
-- what public clauses cite of the crates below
pub use Rattle.bit_addressing_memory.specs.BitOrder
pub use Rattle.bit_addressing_memory.specs.BitRegister
pub use Rattle.bit_addressing_memory.specs.Bits
pub use Rattle.bit_addressing_memory.specs.Memory

pub mod Combined
pub mod Exchanges
-- what public clauses cite of the crates below
pub use Rattle.bit_addressing_memory.specs.BitOrder
pub use Rattle.bit_addressing_memory.specs.BitRegister
pub use Rattle.bit_addressing_memory.specs.Bits
pub use Rattle.bit_addressing_memory.specs.Chunk
pub use Rattle.bit_addressing_memory.specs.Memory
pub use Rattle.bit_addressing_memory.specs.Straight

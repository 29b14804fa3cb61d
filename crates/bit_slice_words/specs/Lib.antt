pub mod Found
pub mod Holds
pub mod Stretch
pub mod Orders
pub mod Edits
pub mod PathLaws
-- what public clauses cite of the crates below
pub use Rattle.bit_addressing_memory.specs.BitOrder
pub use Rattle.bit_addressing_memory.specs.BitRegister
pub use Rattle.bit_addressing_memory.specs.Bits
pub use Rattle.bit_addressing_memory.specs.Memory
pub use Rattle.bit_addressing_memory.specs.Moves
pub use Rattle.bit_slice_paths.specs.Rotations
pub use Rattle.bit_slice_paths.specs.Steps

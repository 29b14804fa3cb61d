pub mod Ways
pub mod Lending
pub mod SplitsMut
pub mod Takes
-- what public clauses cite of the crates below
pub use Rattle.bit_addressing_memory.specs.BitOrder
pub use Rattle.bit_addressing_memory.specs.BitRegister
pub use Rattle.bit_addressing_memory.specs.Bits
pub use Rattle.bit_addressing_memory.specs.Memory
pub use Rattle.bit_slice_views.specs.View
pub use Rattle.bit_slice_views_mut.specs.Frame

pub mod BitMut
pub mod Fills
pub mod Part
pub mod PartLender
pub mod Shows
pub mod Halves
pub mod Domain
pub mod Cut
pub mod Lending
pub mod Masked
-- what public clauses cite of the crates below
pub use Rattle.bit_addressing_memory.specs.BitOrder
pub use Rattle.bit_addressing_memory.specs.BitRegister
pub use Rattle.bit_addressing_memory.specs.Bits
pub use Rattle.bit_addressing_memory.specs.Memory
pub use Rattle.bit_slice_views_mut.specs.View
pub use Rattle.bit_slice_views_mut.specs.Frame
pub use Rattle.bit_slice_views_mut.specs.Parts

pub mod BitsLeft
pub mod Indices
pub mod Cuts
pub mod Lending
pub mod PiecesMut
pub mod Remainder
-- what public clauses cite of the crates below
pub use Rattle.bit_addressing_memory.specs.BitOrder
pub use Rattle.bit_addressing_memory.specs.BitRegister
pub use Rattle.bit_addressing_memory.specs.Bits
pub use Rattle.bit_addressing_memory.specs.Memory
pub use Rattle.bit_slice_views.specs.Found
pub use Rattle.bit_slice_views.specs.BitRef
pub use Rattle.bit_slice_views.specs.View
pub use Rattle.bit_slice_access.specs.Frame
pub use Rattle.bit_slice_access.specs.BitMut

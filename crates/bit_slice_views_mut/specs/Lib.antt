pub mod Frame
pub mod FrameLaws
pub mod ViewMut
pub mod Lending
pub mod Parts
pub mod Combined
pub mod Pair
-- what public clauses cite of the crates below
pub use Rattle.bit_slice_views.specs.Rotations
pub use Rattle.bit_slice_views.specs.BitRef
pub use Rattle.bit_slice_views.specs.Parts as DomainParts
pub use Rattle.bit_slice_views.specs.View

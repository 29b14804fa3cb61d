pub mod Repeated
pub mod Retained
-- what public clauses cite of the crates below
pub use Rattle.bit_containers_array.specs.Array
pub use Rattle.bit_containers_array.specs.FromView
pub use Rattle.bit_containers_array.specs.Left as ArrayLeft
pub use Rattle.bit_containers_vector.specs.Answers
pub use Rattle.bit_containers_vector.specs.Count
pub use Rattle.bit_containers_vector.specs.Drained
pub use Rattle.bit_containers_vector.specs.Fill
pub use Rattle.bit_containers_vector.specs.Grown
pub use Rattle.bit_containers_vector.specs.Lending
pub use Rattle.bit_containers_vector.specs.SliceFault
pub use Rattle.bit_containers_vector.specs.Spliced
pub use Rattle.bit_containers_vector.specs.Vector
pub use Rattle.bit_containers_box.specs.Box
pub use Rattle.bit_containers_box.specs.Fill as BoxFill
pub use Rattle.bit_containers_box.specs.Left as BoxLeft
pub use Rattle.bit_containers_box.specs.Lending as BoxLending
pub use Rattle.bit_slice.specs.BitRef
pub use Rattle.bit_slice.specs.Compare
pub use Rattle.bit_slice.specs.Ends
pub use Rattle.bit_slice.specs.DomainParts as DomainParts
pub use Rattle.bit_slice.specs.Texts
pub use Rattle.bit_slice.specs.View
pub use Rattle.bit_slice.specs.Combined
pub use Rattle.bit_slice.specs.Frame
pub use Rattle.bit_slice.specs.Pair
pub use Rattle.bit_slice.specs.Parts
pub use Rattle.bit_slice.specs.ViewMut
pub use Rattle.bit_slice.specs.BitMut
pub use Rattle.bit_slice.specs.Fills
pub use Rattle.bit_slice.specs.Part
pub use Rattle.bit_slice.specs.PartLender
pub use Rattle.bit_slice.specs.Shows
pub use Rattle.bit_slice.specs.Indices
pub use Rattle.bit_slice.specs.Ways
pub use Rattle.bit_slice.specs.Found
pub use Rattle.bit_slice.specs.PathLaws
pub use Rattle.bit_slice.specs.Steps
pub use Rattle.bit_slice.specs.BitOrder
pub use Rattle.bit_slice.specs.BitRegister
pub use Rattle.bit_slice.specs.Memory
pub use Rattle.bit_slice.specs.Moves
pub use Rattle.bit_slice.specs.OrderLaws
pub use Rattle.bit_slice.specs.Sweep
pub use Rattle.bit_slice.specs.SweepWays as SweepWays
-- all of the layer below
pub use Rattle.bit_slice.specs as Slice

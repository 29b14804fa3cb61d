pub mod Commands
pub mod Network
-- what public clauses cite of the crates below
pub use Rattle.bit_slice_views.specs.BitRef
pub use Rattle.bit_slice_views.specs.Compare
pub use Rattle.bit_slice_views.specs.Ends
pub use Rattle.bit_slice_views.specs.Parts as DomainParts
pub use Rattle.bit_slice_views.specs.Texts
pub use Rattle.bit_slice_views.specs.View
pub use Rattle.bit_slice_views_mut.specs.Combined
pub use Rattle.bit_slice_views_mut.specs.Frame
pub use Rattle.bit_slice_views_mut.specs.Pair
pub use Rattle.bit_slice_views_mut.specs.Parts
pub use Rattle.bit_slice_views_mut.specs.ViewMut
pub use Rattle.bit_slice_access.specs.BitMut
pub use Rattle.bit_slice_access.specs.Fills
pub use Rattle.bit_slice_access.specs.Part
pub use Rattle.bit_slice_access.specs.PartLender
pub use Rattle.bit_slice_access.specs.Shows
pub use Rattle.bit_slice_access.specs.Cut
pub use Rattle.bit_slice_access.specs.Domain
pub use Rattle.bit_slice_access.specs.Halves
pub use Rattle.bit_slice_access.specs.Masked
pub use Rattle.bit_slice_iterators.specs.BitsLeft
pub use Rattle.bit_slice_iterators.specs.Cuts
pub use Rattle.bit_slice_iterators.specs.PiecesMut
pub use Rattle.bit_slice_iterators.specs.Remainder
pub use Rattle.bit_slice_iterators.specs.Indices
pub use Rattle.bit_slice_splits.specs.Ways
pub use Rattle.bit_slice_splits.specs.SplitsMut
pub use Rattle.bit_slice_fields.specs.Digits
pub use Rattle.bit_slice_fields.specs.Number
pub use Rattle.bit_slice_fields.specs.Whole
pub use Rattle.bit_slice_words.specs.Found
pub use Rattle.bit_slice_words.specs.Holds
pub use Rattle.bit_slice_words.specs.Edits
pub use Rattle.bit_slice_words.specs.Rotations
pub use Rattle.bit_slice_words.specs.PathLaws
pub use Rattle.bit_slice_words.specs.Steps
pub use Rattle.bit_addressing.specs.BitIdx
pub use Rattle.bit_addressing.specs.BitMask
pub use Rattle.bit_addressing.specs.BitOrder
pub use Rattle.bit_addressing.specs.BitRegister
pub use Rattle.bit_addressing.specs.Bits
pub use Rattle.bit_addressing.specs.OrderLaws
pub use Rattle.bit_addressing.specs.RegisterLaws
pub use Rattle.bit_addressing.specs.StepLaws
pub use Rattle.bit_addressing.specs.Text
pub use Rattle.bit_addressing.specs.OrderFault
pub use Rattle.bit_addressing.specs.WordFault
pub use Rattle.bit_addressing.specs.Span
pub use Rattle.bit_addressing.specs.SpanLimits
pub use Rattle.bit_addressing.specs.Domain as SpanDomain
pub use Rattle.bit_addressing.specs.Parts as SpanParts
pub use Rattle.bit_addressing.specs.Memory
pub use Rattle.bit_addressing.specs.Moves
pub use Rattle.bit_addressing.specs.Sweep
pub use Rattle.bit_addressing.specs.Ways as SweepWays
pub use Rattle.bit_addressing.specs.Straight
pub use Rattle.bit_addressing.specs.BitPart
pub use Rattle.bit_addressing.specs.PartialElement
pub use Rattle.bit_addressing.specs.PartialElementMut
pub use Rattle.bit_addressing.specs.Pointer
pub use Rattle.bit_addressing.specs.PointerRange
pub use Rattle.bit_addressing.specs.Runs
-- all of the layer below
pub use Rattle.bit_addressing.specs as Addressing

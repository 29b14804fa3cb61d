pub mod Words
pub mod BitRef
pub mod Compare
pub mod Ends
pub mod Parts
pub mod Texts
pub mod View
-- what public clauses cite of the crates below
pub use Rattle.bit_addressing_memory.specs.BitOrder
pub use Rattle.bit_addressing_memory.specs.BitRegister
pub use Rattle.bit_addressing_memory.specs.Bits
pub use Rattle.bit_addressing_memory.specs.Memory
pub use Rattle.bit_addressing_span.specs.declared.span.TheConstants as SpanLimits
pub use Rattle.bit_addressing_span.specs.declared.span_error.BitSpanError.TheVariants as SpanFaults
pub use Rattle.bit_slice_words.specs.Found
pub use Rattle.bit_slice_words.specs.Rotations

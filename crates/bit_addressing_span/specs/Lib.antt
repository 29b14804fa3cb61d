pub mod Domain
pub mod BitPart
pub mod BitDomain
pub mod Form
pub mod PartialElement
pub mod Span
pub mod Texts
pub mod DomainWords
pub mod PartialElementMut
pub mod DomainMut
pub mod Parts
-- what public clauses cite of the crates below
pub use Rattle.bit_addressing_memory.specs.BitIdx
pub use Rattle.bit_addressing_memory.specs.BitOrder
pub use Rattle.bit_addressing_memory.specs.BitRegister
pub use Rattle.bit_addressing_memory.specs.Bits
pub use Rattle.bit_addressing_memory.specs.Memory
pub use Rattle.bit_addressing_memory.specs.Partial

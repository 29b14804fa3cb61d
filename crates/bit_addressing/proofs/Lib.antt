pub mod PointerLemmas
pub mod PointerRangeLemmas
pub mod BitCommandLemmas
pub mod WordCommandLemmas
pub mod RunLemmas
pub mod CommandLemmas
pub mod CallerLemmas
-- what public clauses cite of the crates below
pub use Rattle.bit_addressing_memory.proofs.CopyLemmas
pub use Rattle.bit_addressing_memory.proofs.EntryLemmas
pub use Rattle.bit_addressing_memory.proofs.MemoryLemmas
pub use Rattle.bit_addressing_memory.proofs.OverwriteLemmas
pub use Rattle.bit_addressing_memory.proofs.PartsLemmas
pub use Rattle.bit_addressing_memory.proofs.WindowLemmas
pub use Rattle.bit_addressing_order.proofs.CallerLemmas as OrderCallerLemmas
pub use Rattle.bit_addressing_order.proofs.DigitLemmas
pub use Rattle.bit_addressing_order.proofs.OrderLemmas
pub use Rattle.bit_addressing_memory.proofs.Changes
pub use Rattle.bit_addressing_memory.proofs.WayLemmas

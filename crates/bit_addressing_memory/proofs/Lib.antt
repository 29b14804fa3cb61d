pub mod Common
pub mod CopyLemmas
pub mod EntryLemmas
pub mod LimbLemmas
pub mod MemoryLemmas
pub mod OverwriteLemmas
pub mod PlaceLemmas
pub mod WindowLemmas
pub mod PartialLemmas
pub mod StoredLemmas
pub mod PartsLemmas
pub mod ShiftLemmas
pub mod BlockLemmas
pub mod ChunkLemmas
pub mod TransferLemmas
pub mod Changes
pub mod Gathers
pub mod Puts
pub mod ShiftedWords
pub mod SpreadLemmas
pub mod Sweeps
pub mod WayLemmas
-- what public clauses cite of the crates below
pub use Rattle.bit_addressing_order.proofs.CallerLemmas as OrderCallerLemmas
pub use Rattle.bit_addressing_order.proofs.DigitLemmas
pub use Rattle.bit_addressing_order.proofs.OrderLemmas

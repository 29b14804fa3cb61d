pub mod CombineLemmas
pub mod DigitsLemmas
mod ExchangeLemmas
pub mod KnownRows
pub mod TurnLemmas
pub mod WholeLemmas
-- what callers cite of the crate below
pub use Rattle.bit_addressing_memory.proofs.ChunkLemmas
pub use Rattle.bit_addressing_memory.proofs.TransferLemmas

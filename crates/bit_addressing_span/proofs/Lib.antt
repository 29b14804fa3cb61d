pub mod CutLemmas
pub mod MaskedLemmas
pub mod SpanLemmas
pub mod TextLemmas
-- what public clauses cite of the crates below
pub use Rattle.bit_addressing_memory.proofs.CopyLemmas
pub use Rattle.bit_addressing_memory.proofs.EntryLemmas
pub use Rattle.bit_addressing_memory.proofs.MemoryLemmas
pub use Rattle.bit_addressing_memory.proofs.OverwriteLemmas
pub use Rattle.bit_addressing_memory.proofs.PartsLemmas
pub use Rattle.bit_addressing_memory.proofs.WindowLemmas

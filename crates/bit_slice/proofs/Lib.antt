pub mod BitLemmas
pub mod IndexLemmas
pub mod NetworkLemmas
pub mod OnesLemmas
pub mod RunLemmas
pub mod WrittenLemmas
-- what public clauses cite of the crates below
pub use Rattle.bit_slice_views.proofs.CompareLemmas
pub use Rattle.bit_slice_views.proofs.EndLemmas
pub use Rattle.bit_slice_views.proofs.ViewLemmas
pub use Rattle.bit_slice_views_mut.proofs.FrameLemmas
pub use Rattle.bit_slice_views_mut.proofs.PairLemmas
pub use Rattle.bit_slice_access.proofs.CallerLemmas
pub use Rattle.bit_slice_access.proofs.FillLemmas
pub use Rattle.bit_slice_access.proofs.PartLemmas
pub use Rattle.bit_slice_access.proofs.CutLemmas as DomainLemmas
-- and what proofs of those who pack and unpack cite
pub use Rattle.bit_slice_fields.proofs.CallerLemmas as NumberLemmas
pub use Rattle.bit_slice_fields.proofs.WholeLemmas
pub use Rattle.bit_addressing_memory.proofs.MemoryLemmas
pub use Rattle.bit_addressing_memory.proofs.WindowLemmas
-- all of the layer below
pub use Rattle.bit_addressing.proofs as Addressing

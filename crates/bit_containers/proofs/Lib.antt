pub mod CallerLemmas
pub mod KnownRows
pub mod RepeatedLemmas
pub mod RetainLemmas
-- what public clauses cite of the crates below
pub use Rattle.bit_containers_vector.proofs.CountLemmas
pub use Rattle.bit_containers_vector.proofs.LendLemmas
pub use Rattle.bit_containers_vector.proofs.VectorLemmas
-- and what proofs of those who keep bits cite
pub use Rattle.bit_slice.proofs.BitLemmas
pub use Rattle.bit_slice.proofs.IndexLemmas
pub use Rattle.bit_slice.proofs.OnesLemmas
-- all of the layer below
pub use Rattle.bit_slice.proofs as Slice

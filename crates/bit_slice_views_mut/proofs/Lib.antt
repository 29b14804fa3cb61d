pub mod FrameLemmas
pub mod PairLemmas
pub mod CombinedLemmas
pub mod MidLemmas
pub mod SweepLemmas
mod WordLists
-- what public clauses cite of the crates below
pub use Rattle.bit_slice_views.proofs.ListLemmas

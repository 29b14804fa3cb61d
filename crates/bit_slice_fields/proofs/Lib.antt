pub mod WeightLemmas
mod PieceLemmas
mod SegmentLemmas
pub mod WholeLemmas
pub mod DigitsLemmas
pub mod CallerLemmas
mod KnownRows

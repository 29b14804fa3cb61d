pub mod CallerLemmas
pub mod FillLemmas
pub mod MaskedLemmas
pub mod PartLemmas
pub mod SwapLemmas
mod PartEditLemmas
pub mod SpanLemmas
pub mod CutLemmas

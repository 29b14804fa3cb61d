mod ElementLemmas
mod WidthLemmas
pub mod CallerLemmas
pub mod DigitLemmas
mod MaskLemmas
mod OntoLemmas
pub mod OrderLemmas
mod RangeLemmas
mod SelectorLemmas

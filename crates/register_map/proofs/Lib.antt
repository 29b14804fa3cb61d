pub mod DeviceLemmas
pub mod KnownRows
pub mod NumberLemmas
pub mod RegisterLemmas

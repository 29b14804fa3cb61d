pub mod PartLemmas
pub mod BoxLemmas
pub mod FillLemmas
pub mod LeftLemmas
pub mod LendLemmas

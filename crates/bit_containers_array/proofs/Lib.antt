pub mod LeftLemmas
pub mod MadeLemmas

pub mod ByteLemmas
pub mod EightLemmas
pub mod LoadedLemmas

pub mod ByteLemmas
pub mod ChecksumLemmas
pub mod HeaderLemmas
pub mod FieldLemmas
pub mod LawLemmas

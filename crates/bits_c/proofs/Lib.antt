pub mod WroteLemmas
pub mod NumberLemmas
pub mod RunLemmas
pub mod TableLemmas

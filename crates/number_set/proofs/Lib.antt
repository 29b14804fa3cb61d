pub mod HeldLemmas
pub mod KnownRows
pub mod SieveLemmas

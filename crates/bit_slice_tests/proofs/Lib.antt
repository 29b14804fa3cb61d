pub mod HalfLemmas
pub mod SweepLemmas
pub mod FilledLemmas
pub mod MarkedLemmas
pub mod RunLemmas
pub mod NetworkLemmas

-- what public clauses cite of the crates below
pub use Rattle.bit_addressing_sample_orders.specs.Count

mod VerifyLemmas
-- what public clauses cite of the crates below
pub use Rattle.bit_addressing_order.proofs.CallerLemmas
pub use Rattle.bit_addressing_order.proofs.DigitLemmas
pub use Rattle.bit_addressing_order.proofs.OrderLemmas

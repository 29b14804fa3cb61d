pub mod OrderFault
pub mod VerifySteps
pub mod WordFault
-- what public clauses cite of the crates below
pub use Rattle.bit_addressing_order.specs.BitIdx
pub use Rattle.bit_addressing_order.specs.BitMask
pub use Rattle.bit_addressing_order.specs.BitOrder
pub use Rattle.bit_addressing_order.specs.BitRegister
pub use Rattle.bit_addressing_order.specs.Bits
pub use Rattle.bit_addressing_order.specs.OrderLaws
pub use Rattle.bit_addressing_order.specs.RegisterLaws
pub use Rattle.bit_addressing_order.specs.Text

pub mod Prelude
pub mod Lies
pub mod Chunk
pub mod Memory
pub mod Place
pub mod Partial
pub mod ShiftSteps
pub mod Straight
pub mod MoveSteps
pub mod Moves
pub mod Sweep
pub mod Ways
-- what public clauses cite of the crates below
pub use Rattle.bit_addressing_order.specs.BitIdx
pub use Rattle.bit_addressing_order.specs.BitOrder
pub use Rattle.bit_addressing_order.specs.BitRegister
pub use Rattle.bit_addressing_order.specs.Bits
pub use Rattle.bit_addressing_order.specs.OrderLaws

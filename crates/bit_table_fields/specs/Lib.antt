pub mod Windows
pub mod Places
pub mod Chunks
-- what public clauses cite of the crates below
pub use Rattle.bit_table_layout.specs.Digits
pub use Rattle.bit_table_layout.specs.Readings
pub use Rattle.bit_table_layout.specs.Rows
pub use Rattle.bit_slice_words.specs.Steps
pub use Rattle.bit_slice_views_mut.specs.Frame
pub use Rattle.bit_slice_views.specs.View
pub use Rattle.bit_addressing_memory.specs.BitOrder
pub use Rattle.bit_addressing_memory.specs.BitRegister
pub use Rattle.bit_addressing_memory.specs.Memory
pub use Rattle.bit_table_layout.specs.Layouts

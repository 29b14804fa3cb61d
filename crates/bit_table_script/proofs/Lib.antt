pub mod AcceptedLemmas
pub mod LetteredLemmas
pub mod MarkedLemmas
pub mod NumberLemmas
pub mod TableLemmas
pub mod RoomLemmas
pub mod MovedLemmas
pub mod RowCommandLemmas
pub mod AnswerLemmas
pub mod SessionLemmas
pub mod CallerLemmas
mod KnownRows
-- what proofs of callers cite of the crates below
pub use Rattle.bit_table_lines.proofs.LineLemmas
pub use Rattle.bit_table_lines.proofs.ScriptCallerLemmas
pub use Rattle.bit_table_layout.proofs.LoadLemmas

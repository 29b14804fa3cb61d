-- what the crates below show, under the names that they have there
pub use Rattle.bit_table_script.proofs.AcceptedLemmas
pub use Rattle.bit_table_script.proofs.LetteredLemmas
pub use Rattle.bit_table_script.proofs.MarkedLemmas
pub use Rattle.bit_table_script.proofs.NumberLemmas
pub use Rattle.bit_table_script.proofs.TableLemmas
pub use Rattle.bit_table_script.proofs.RoomLemmas
pub use Rattle.bit_table_script.proofs.MovedLemmas
pub use Rattle.bit_table_script.proofs.RowCommandLemmas
pub use Rattle.bit_table_script.proofs.AnswerLemmas
pub use Rattle.bit_table_script.proofs.SessionLemmas
pub use Rattle.bit_table_script.proofs.CallerLemmas
pub use Rattle.bit_table_script.proofs.LineLemmas
pub use Rattle.bit_table_script.proofs.ScriptCallerLemmas
pub use Rattle.bit_table_script.proofs.LoadLemmas
-- all of the layer below
pub use Rattle.bit_containers.proofs as Containers

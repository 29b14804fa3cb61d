pub mod Lettered
pub mod Moved
pub mod RowCommands
pub mod Room
pub mod Told
pub mod View
pub mod Shapes
pub mod Scripts
pub mod Sessions
pub mod ScriptLaws
-- what public clauses cite of the crates below
pub use Rattle.bit_table_lines.specs.Lines
pub use Rattle.bit_table_lines.specs.Streams
pub use Rattle.bit_table_lines.specs.Ends
pub use Rattle.bit_table_lines.specs.Runs
pub use Rattle.bit_table_lines.specs.Going
pub use Rattle.bit_table_lines.specs.declared.run_error.RunError
pub use Rattle.bit_table_lines.specs.declared.run_error.RunError.TheVariants as RunErrorVariants
pub use Rattle.bit_table_layout.specs.Digits
pub use Rattle.bit_table_layout.specs.Fields
pub use Rattle.bit_table_layout.specs.Images
pub use Rattle.bit_table_layout.specs.Layouts
pub use Rattle.bit_table_layout.specs.LineWords
pub use Rattle.bit_table_layout.specs.LineWordsLeft
pub use Rattle.bit_table_layout.specs.Loads
pub use Rattle.bit_table_layout.specs.Numerals
pub use Rattle.bit_table_layout.specs.Readings
pub use Rattle.bit_table_layout.specs.Rows
pub use Rattle.bit_table_layout.specs.CauseWords
pub use Rattle.bit_table_layout.specs.declared.layout.TheConstants as LayoutLimits
pub use Rattle.bit_table_layout.specs.declared.cause.Cause.TheVariants as CauseVariants
pub use Rattle.bit_table_commands.specs.declared.command.Command
pub use Rattle.bit_table_commands.specs.declared.command.Command.TheVariants as CommandVariants
pub use Rattle.bit_table_commands.specs.declared.reply.Reply.TheVariants as ReplyVariants
pub use Rattle.bit_table_layout.specs.declared.bool_op.BoolOp
pub use Rattle.bit_table_layout.specs.declared.bool_op.BoolOp.TheVariants as BoolOpVariants
pub use Rattle.bit_table_commands.specs.declared.test.Test
pub use Rattle.bit_table_commands.specs.declared.test.Test.TheVariants as TestVariants
pub use Rattle.bit_table_commands.specs.Tables
pub use Rattle.bit_table_commands.specs.Causes
pub use Rattle.bit_table_commands.specs.Edits
pub use Rattle.bit_table_commands.specs.CuttingOff
pub use Rattle.bit_table_commands.specs.Commands
pub use Rattle.bit_table_commands.specs.Marks
pub use Rattle.bit_table_commands.specs.Replies
pub use Rattle.bit_table_layout.specs.Letters
pub use Rattle.bit_table_layout.specs.LetterSets as LetterMarks
pub use Rattle.bit_table_fields.specs.Windows
pub use Rattle.bit_table_rows.specs.RowMoves
pub use Rattle.bit_table_rows.specs.RowsKept
pub use Rattle.bit_containers_vector.specs.Vector
pub use Rattle.bit_slice_views.specs.View as BitsView
pub use Rattle.bit_slice_words.specs.Steps
pub use Rattle.bit_addressing_memory.specs.Memory
pub use Rattle.bit_addressing_memory.specs.Sweep
pub use Rattle.bit_addressing_memory.specs.Ways as SweepWays
pub use Rattle.bit_addressing_memory.specs.BitOrder
pub use Rattle.bit_addressing_memory.specs.BitRegister
pub use Rattle.bit_addressing_memory.specs.OrderLaws
pub use Rattle.bit_slice_words.specs.PathLaws

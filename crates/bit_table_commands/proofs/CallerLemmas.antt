-- What callers know of commands, from one place.
-- ---- lines that spell commands: their form is right, and what is kept is what they spell, cut off
pub use Rattle.bit_table_commands.proofs.SpelledLemmas.{spelled-form, IsSpelled, is_spelled}
-- ---- what holds of a command that no cause refuses: its row numbers, its values, and room for its rows
pub use Rattle.bit_table_commands.proofs.CauseLemmas.{accepted, in_range-facts, full-count, length-not_added}
-- ---- the table that such a command leaves
pub use Rattle.bit_table_commands.proofs.EditLemmas.{edit-is_table, edited-rows}
-- ---- commands that are cut off
pub use Rattle.bit_table_commands.proofs.CutLemmas.{cause_in-cut_off, cut_off-accepted, cut_off-acts}
pub use Rattle.bit_table_commands.proofs.ValueLemmas.{take_all-cut_value, cut_value-all_taken, length-cut_value}
pub use Rattle.bit_table_commands.proofs.ValueLemmas.{takes-cut_value, cut_value-taken, cut_place-below}
pub use Rattle.bit_table_commands.proofs.ValueLemmas.{cut_place-within}
-- ---- rows that are marked, and rows that a test passes
pub use Rattle.bit_table_commands.proofs.MarkLemmas.{row_bears-marked, row_bears-other, marked-numbers, marked-letters}
pub use Rattle.bit_table_commands.proofs.MarkLemmas.{marked-decided, length-marked, get_or-marked, with_mark}
pub use Rattle.bit_table_commands.proofs.MarkLemmas.{rows_passing-same, rows_passing-marked, rows_passing-append}
pub use Rattle.bit_table_commands.proofs.MarkLemmas.{rows_passing-more, length-rows_passing}

-- What callers of a table know, from one place.
use Rattle.std.proofs.Common.{ℕ, List, Option, IfSome}
use Rattle.std.specs.Io.KnownBytes.{Appends}
use Rattle.bit_table_lines.specs.Runs.{RanToEnd}
use Rattle.bit_table_commands.specs.Tables.{start}
use Rattle.bit_table_script.specs.Scripts.{answers, script_answer}
-- ---- the bits of a row, and chains over the words of a line
pub use Rattle.bit_table_layout.proofs.CallerLemmas.{row_width-bounds, YieldsList-from_words}
-- ---- images, and the rows that have them
pub use Rattle.bit_table_layout.proofs.ImageLemmas.{images_tell_numbers, has_only_numbers}
-- ---- commands, refused and cut off, and what they leave
pub use Rattle.bit_table_commands.proofs.CallerLemmas.{spelled-form, IsSpelled, is_spelled, accepted, in_range-facts}
pub use Rattle.bit_table_commands.proofs.CallerLemmas.{full-count, length-not_added, edit-is_table, edited-rows}
pub use Rattle.bit_table_commands.proofs.CallerLemmas.{cause_in-cut_off, cut_off-accepted, cut_off-acts}
pub use Rattle.bit_table_commands.proofs.CallerLemmas.{take_all-cut_value, cut_value-all_taken, length-cut_value}
pub use Rattle.bit_table_commands.proofs.CallerLemmas.{takes-cut_value, cut_value-taken, cut_place-below}
pub use Rattle.bit_table_commands.proofs.CallerLemmas.{cut_place-within, row_bears-marked, row_bears-other}
pub use Rattle.bit_table_commands.proofs.CallerLemmas.{marked-numbers, marked-letters, marked-decided, length-marked}
pub use Rattle.bit_table_commands.proofs.CallerLemmas.{get_or-marked, with_mark, rows_passing-same}
pub use Rattle.bit_table_commands.proofs.CallerLemmas.{rows_passing-marked, rows_passing-append, rows_passing-more}
pub use Rattle.bit_table_commands.proofs.CallerLemmas.{length-rows_passing}
-- ---- what a run wrote
pub use Rattle.bit_table_lines.proofs.ScriptCallerLemmas.{answered-to_end}

-- where the reader tells its bytes, a run of a script to the end wrote the answer to all of it
pub script_answer-to_end : (given left old new : Option (List ℕ)) → RanToEnd (answers start) given left old new
    → IfSome given (λ text. Appends old new (script_answer text))
script_answer-to_end given left old new h = answered-to_end (answers start) given left old new h

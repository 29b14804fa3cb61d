-- The answer to a script.
use Rattle.std.specs.Prelude.{ℕ, ◌==◌, not, Bool, List, [], ◌∷◌, ◌++◌, length}
use Rattle.std.specs.Prelude.{Option, Some, None, option_map, if◌then◌else◌}
use Rattle.bit_table_layout.specs.LineWords.{words}
use Rattle.bit_table_layout.specs.Layouts.{layout_of}
use Rattle.bit_table_layout.specs.declared.cause.Cause.{Cause}
use Rattle.bit_table_commands.specs.declared.command.Command.{Command}
use Rattle.bit_table_commands.specs.declared.reply.Reply.TheVariants.{Done}
use Rattle.bit_table_commands.specs.Commands.{command_of}
use Rattle.bit_table_lines.specs.Lines.{lines}
use Rattle.bit_table_layout.specs.CauseWords.{refusal_text}
use Rattle.bit_table_commands.specs.Replies.{reply_text}
use Rattle.bit_table_commands.specs.Tables.{TableShape, State, start, table_in, state_with, new_table}
use Rattle.bit_table_commands.specs.Causes.{cause}
use Rattle.bit_table_commands.specs.Edits.{edit, reply_to}

-- whether a line asks for something: it has a word
abbrev pub has_word : List ℕ → Bool
has_word line = not (length (words line) == 0)

-- the answer to an accepted line in a table, of which the words spell this command
abbrev pub command_answer : TableShape → Option Command → List ℕ
command_answer t None = []
command_answer t (Some c) = reply_text (reply_to t c)

-- the answer to an accepted line
abbrev pub accepted_answer : Option TableShape → List ℕ → List ℕ
accepted_answer None line = reply_text Done
accepted_answer (Some t) line = command_answer t (command_of t.layout line)

-- the answer to a line that this cause refuses, or none does
abbrev pub answer_by : Option Cause → Option TableShape → List ℕ → List ℕ
answer_by None table line = accepted_answer table line
answer_by (Some c) table line = refusal_text c

-- the table that an accepted line leaves, of which the words spell this command
abbrev pub command_edit : TableShape → Option Command → TableShape
command_edit t None = t
command_edit t (Some c) = edit t c

-- the table that an accepted line leaves
abbrev pub accepted_edit : Option TableShape → List ℕ → Option TableShape
accepted_edit None line = option_map new_table (layout_of line)
accepted_edit (Some t) line = Some (command_edit t (command_of t.layout line))

-- the state of this table or none
abbrev pub state_of : Option TableShape → State
state_of None = start
state_of (Some t) = state_with t

-- the state that a line leaves which this cause refuses, or none does: a refused line changes nothing
abbrev pub after_by : Option Cause → State → List ℕ → State
after_by None s line = state_of (accepted_edit (table_in s) line)
after_by (Some c) s line = s

-- the answer to a line in a state: nothing where it has no word
unfoldable pub answer : State → List ℕ → List ℕ
answer s line = if has_word line then answer_by (cause s line) (table_in s) line else []

-- the state that a line leaves: one without a word changes nothing
unfoldable pub after : State → List ℕ → State
after s line = if has_word line then after_by (cause s line) s line else s

-- the answers to lines in order
abbrev pub answers : State → List (List ℕ) → List ℕ
answers s [] = []
answers s (line ∷ rest) = answer s line ++ answers (after s line) rest

-- the answer to a script: the answers to its lines, which begin with no layout, no rows and nothing kept
abbrev pub script_answer : List ℕ → List ℕ
script_answer text = answers start (lines text)

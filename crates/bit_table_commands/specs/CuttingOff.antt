-- What it changes that a command keeps its numbers cut off: nothing.
use Rattle.std.specs.Prelude.{◌≡◌, None}
use Rattle.bit_table_commands.specs.declared.command.Command.{Command}
use Rattle.bit_table_commands.specs.Commands.{cut_off}
use Rattle.bit_table_commands.specs.Tables.{TableShape, IsTable}
use Rattle.bit_table_commands.specs.Causes.{cause_in}
use Rattle.bit_table_commands.specs.Edits.{edit, reply_to}

-- one command is refused in a table for the cause for which another is and, where none refuses, does and answers the
-- same
pub record ActsAs (t : TableShape) (one other : Command) : Type 0 where
  pub same_cause : cause_in t one ≡ cause_in t other
  pub same_edit : cause_in t other ≡ None → edit t one ≡ edit t other
  pub same_reply : cause_in t other ≡ None → reply_to t one ≡ reply_to t other

-- cutting off a command's numbers changes neither its cause nor, where there is none, its edit and its reply
abbrev pub CuttingOffChangesNothing : Type 0
CuttingOffChangesNothing = (t : TableShape) → IsTable t → (c : Command) → ActsAs t (cut_off c) c

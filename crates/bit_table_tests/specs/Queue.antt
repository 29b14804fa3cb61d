-- Rows that come in.
use Rattle.std.specs.Prelude.{⊤}
use Rattle.bit_table_commands.specs.declared.command.Command.{Command}
use Rattle.bit_table_commands.specs.declared.command.Command.TheVariants.{Insert}

-- a row comes in
abbrev pub IsInsertion : Command → Type 0
IsInsertion (Insert p vs) = ⊤
IsInsertion c = ⊥

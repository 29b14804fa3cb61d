-- The private steps of finding a cause. No public clause cites this module.
use Rattle.std.specs.Prelude.{ℕ, ◌+◌, ◌-◌}
use Rattle.bit_table_commands.specs.declared.command.Command.{Command}
use Rattle.bit_table_commands.specs.declared.command.Command.TheVariants.{Insert, Dup, Load}

-- how many rows need room for a command, where there are n: those after it, or all n where they become fewer
abbrev pub rows_counted : ℕ → Command → ℕ
rows_counted n (Insert p vs) = n + 1
rows_counted n (Dup p q) = n + (q - p)
rows_counted n (Load m bytes) = m
rows_counted n c = n

-- how many rows a command loads
abbrev pub rows_loaded : Command → ℕ
rows_loaded (Load n bytes) = n
rows_loaded c = 0

use Rattle.std.proofs.Common.{◌≡◌, ◌++◌, take}
use Rattle.bit_table_commands.proofs.ReplyLemmas.{behind_spaces}
use Rattle.bit_table_commands.proofs.reply.spaced.Given as goal

-- behind the first number come those so far, each behind a space
abbrev pub invariant-loop-number : goal.invariant-loop-number
invariant-loop-number g l =
    l.text.items ≡ l.initial.text.items ++ behind_spaces g.N.Integer.text (take l.number-index l.rest)

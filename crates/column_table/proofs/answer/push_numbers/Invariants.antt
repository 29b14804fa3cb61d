use Rattle.std.proofs.Common.{◌≡◌, ◌++◌, take}
use Rattle.std.specs.Fmt.{signed_decimal}
use Rattle.column_table.proofs.AnswerLemmas.{behind_commas}
use Rattle.column_table.proofs.answer.push_numbers.Given as goal

-- behind the first number come those so far, each behind a comma
abbrev pub invariant-loop-number : goal.invariant-loop-number
invariant-loop-number l =
    l.text.items ≡ l.initial.text.items ++ behind_commas signed_decimal (take l.number-index l.rest)

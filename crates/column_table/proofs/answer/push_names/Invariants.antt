use Rattle.std.proofs.Common.{◌≡◌, ◌++◌, take}
use Rattle.bit_table.specs.Fields.{FieldShape}
use Rattle.column_table.proofs.AnswerLemmas.{behind_commas}
use Rattle.column_table.proofs.answer.push_names.Given as goal

-- behind the first name come those so far, each behind a comma
abbrev pub invariant-loop-field : goal.invariant-loop-field
invariant-loop-field l =
    l.text.items ≡ l.initial.text.items ++ behind_commas (λ (f : FieldShape). f.name) (take l.field-index l.rest)

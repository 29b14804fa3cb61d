use Rattle.std.proofs.Common.{◌≡◌, ◌++◌, take}
use Rattle.std.specs.List.{flat_map}
use Rattle.bit_table.specs.Edits.{numbers_at}
use Rattle.column_table.specs.Answers.{row_line}
use Rattle.column_table.proofs.answer.selected_rows.Given as goal

-- behind the header come the rows at the places so far
abbrev pub invariant-loop-place : goal.invariant-loop-place
invariant-loop-place g l =
    l.text.items ≡ l.initial.text.items
    ++ flat_map (λ p. row_line (numbers_at p l.fn.table.shape.rows)) (take l.place-index l.place-items)

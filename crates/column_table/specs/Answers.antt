-- The text of answers.
use Rattle.std.specs.Prelude.{ℕ, ℤ, List, ◌++◌, codes, map, filter, count_by, decimal}
use Rattle.std.specs.Fmt.{signed_decimal}
use Rattle.std.specs.List.{join_with_byte, flat_map}
use Rattle.bit_table.specs.Edits.{numbers_at}
use Rattle.bit_table.specs.Fields.{FieldShape}
use Rattle.bit_table.specs.Images.{line_of_rows}
use Rattle.bit_table.specs.Layouts.{LayoutShape}
use Rattle.bit_table.specs.Marks.{rows_passing}
use Rattle.bit_table.specs.Replies.{row_numbers}
use Rattle.bit_table.specs.Rows.{all_numbers}
use Rattle.bit_table.specs.Tables.{TableShape}
use Rattle.column_table.specs.declared.condition.Condition.{Condition}
use Rattle.column_table.specs.declared.answer.Question.{Question}
use Rattle.column_table.specs.declared.answer.Question.TheVariants.{Count, Rows, Image, Layout}
use Rattle.column_table.specs.declared.answer.Question.TheVariants.{List as Listing}
use Rattle.column_table.specs.Conditions.{meets, places_meeting}
use Rattle.column_table.specs.Selections.{is_selected}

-- a line of CSV, of cells that need no quotes
abbrev pub csv_line : List (List ℕ) → List ℕ
csv_line cells = join_with_byte 44 cells ++ codes "\n"

-- the line of a row of these numbers
abbrev pub row_line : List ℤ → List ℕ
row_line numbers = csv_line (map signed_decimal numbers)

-- rows of these numbers as CSV with the header
abbrev pub csv_text : LayoutShape → List (List ℤ) → List ℕ
csv_text l rows = csv_line (map (λ (f : FieldShape). f.name) l.fields) ++ flat_map row_line rows

-- the rows that a table has selected, as CSV with the header
abbrev pub selected_text : TableShape → List ℕ
selected_text t = csv_text t.layout (map (λ p. numbers_at p t.rows) (rows_passing is_selected 0 t.rows))

-- the answer to a question of a table, whose layout this line spells, about the rows that meet all conditions
abbrev pub answer_text : List ℕ → TableShape → List Condition → Question → List ℕ
answer_text line t conditions Count = decimal (count_by (meets conditions) (all_numbers t.rows)) ++ codes "\n"
answer_text line t conditions Listing = row_numbers (places_meeting conditions 0 (all_numbers t.rows)) ++ codes "\n"
answer_text line t conditions Rows = csv_text t.layout (filter (meets conditions) (all_numbers t.rows))
answer_text line t conditions Image = line_of_rows t.layout t.rows ++ codes "\n"
answer_text line t conditions Layout = line ++ codes "\n"

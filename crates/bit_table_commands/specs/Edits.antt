-- What a command does to a table, and what it answers.
use Rattle.std.specs.Prelude.{ℕ, ◌+◌, ◌-◌, ℤ, List, [], ◌∷◌, ◌++◌, length, map, take, drop, not, filter, count_by}
use Rattle.std.specs.Prelude.{slice_get, slice_range, slice_set, Option, Some, None, unwrap_or}
use Rattle.std.specs.List.{swap}
use Rattle.std.specs.Option.{option_map_or}
use Rattle.bit_table_layout.specs.Rows.{Row, new_row}
use Rattle.bit_table_layout.specs.Images.{image_bytes}
use Rattle.bit_table_layout.specs.Loads.{rows_in_bytes}
use Rattle.bit_table_layout.specs.Letters.{combined}
use Rattle.bit_table_commands.specs.declared.command.Command.{Command}
use Rattle.bit_table_commands.specs.declared.command.Command.TheVariants.{Insert, Delete, Set, Get, Copy, Swap, Rotate}
use Rattle.bit_table_commands.specs.declared.command.Command.TheVariants.{Dup, Image, Load, Keep, Back, Mark, Combine}
use Rattle.bit_table_commands.specs.declared.command.Command.TheVariants.{Not, Count, List as Listing, Drop}
use Rattle.bit_table_commands.specs.declared.reply.Reply.{Reply}
use Rattle.bit_table_commands.specs.declared.reply.Reply.TheVariants as answered
use Rattle.bit_table_commands.specs.Tables.{TableShape}
use Rattle.bit_table_commands.specs.Marks.{row_bears, marked, passes, number_in_field, rows_passing}

-- a row with v as its number of this field
abbrev pub with_number : Option ℕ → ℤ → Row → Row
with_number None v row = row
with_number (Some f) v row = record row { numbers = slice_set row.numbers f v }

-- what a command makes of rows. They keep their letters wherever they go, and a new row bears none
abbrev pub edited : List Row → Command → List Row
edited rows (Insert p vs) = take p rows ++ (new_row vs ∷ drop p rows)
edited rows (Delete p q) = take p rows ++ drop q rows
edited rows (Set p f v) = take p rows ++ (map (with_number f v) (slice_range rows p (p + 1)) ++ drop (p + 1) rows)
edited rows (Copy p q r) = take r rows ++ (slice_range rows p q ++ drop (r + (q - p)) rows)
edited rows (Swap p q) = swap rows p q
edited rows (Rotate p q k) =
    take p rows ++ (slice_range rows (p + k) q ++ (slice_range rows p (p + k) ++ drop q rows))
edited rows (Dup p q) = rows ++ slice_range rows p q
edited rows (Mark x f t v) = marked x (λ row. passes t (number_in_field f row) v) rows
edited rows (Combine op x y) = marked x (λ row. combined op (row_bears x row) (row_bears y row)) rows
edited rows (Not x) = marked x (λ row. not (row_bears x row)) rows
edited rows (Drop x) = filter (λ row. not (row_bears x row)) rows
edited rows c = rows

-- the rows that a command leaves: `back` those that are kept, `load` those that its bytes hold, without letters, any other
-- what it makes of the rows
abbrev pub rows_after : TableShape → Command → List Row
rows_after t Back = unwrap_or t.kept t.rows
rows_after t (Load n bytes) = rows_in_bytes t.layout n bytes
rows_after t c = edited t.rows c

-- the rows that are kept after a command, if any: `keep` keeps the rows, and after `back` nothing is kept
abbrev pub kept_after : TableShape → Command → Option (List Row)
kept_after t Keep = Some t.rows
kept_after t Back = None
kept_after t c = t.kept

-- the table that a command leaves
abbrev pub edit : TableShape → Command → TableShape
edit t c = record { layout = t.layout; rows = rows_after t c; kept = kept_after t c }

-- the numbers of row p
abbrev pub numbers_at : ℕ → List Row → List ℤ
numbers_at p rows = option_map_or (λ (row : Row). row.numbers) (slice_get rows p) []

-- what a command that is carried out answers
abbrev pub reply_to : TableShape → Command → Reply
reply_to t (Get p) = answered.Numbers (numbers_at p t.rows)
reply_to t Image = answered.Image (length t.rows) (image_bytes t.layout t.rows)
reply_to t (Count x) = answered.Count (count_by (row_bears x) t.rows)
reply_to t (Listing x) = answered.Rows (rows_passing (row_bears x) 0 t.rows)
reply_to t c = answered.Done

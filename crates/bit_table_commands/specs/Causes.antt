-- Which cause refuses a line.
use Rattle.std.specs.Prelude.{ℕ, ◌+◌, ◌-◌, ◌*◌, ◌==◌, ◌&&◌, not, nat_lt, nat_le, is_some, is_none, true, false, Bool, ℤ}
use Rattle.std.specs.Prelude.{List, [], ◌∷◌, length, slice_get, Option, Some, None, option_and_then}
use Rattle.std.specs.Prelude.{if◌then◌else◌}
use Rattle.std.specs.Option.{option_map_or}
use Rattle.bit_table_layout.specs.declared.cause.Cause.{Cause}
use Rattle.bit_table_layout.specs.declared.cause.Cause.TheVariants as refusal
use Rattle.bit_table_layout.specs.declared.layout.TheConstants.{MAX_BITS}
use Rattle.bit_table_layout.specs.Fields.{FieldShape, takes}
use Rattle.bit_table_layout.specs.Layouts.{LayoutShape, row_width, layout_of}
use Rattle.bit_table_layout.specs.Loads.{is_image}
use Rattle.bit_table_layout.specs.Rows.{take_all}
use Rattle.bit_table_commands.specs.declared.command.Command.{Command}
use Rattle.bit_table_commands.specs.declared.command.Command.TheVariants.{Insert, Delete, Set, Get, Copy, Swap, Rotate}
use Rattle.bit_table_commands.specs.declared.command.Command.TheVariants.{Dup, Load, Back, Mark}
use Rattle.bit_table_commands.specs.Commands.{command_of}
use Rattle.bit_table_commands.specs.Tables.{TableShape, State, table_in}
use Rattle.bit_table_commands.specs.Edits.{edit}

-- form: an insertion has not one value a field
abbrev pub wrong_form : LayoutShape → Command → Bool
wrong_form l (Insert p vs) = not (length vs == length l.fields)
wrong_form l c = false

-- the field of this place, if the layout has one
abbrev pub field_at : LayoutShape → Option ℕ → Option FieldShape
field_at l place = option_and_then (slice_get l.fields) place

-- field: the layout has no field of the name
abbrev pub wrong_field : LayoutShape → Command → Bool
wrong_field l (Set p f v) = is_none (field_at l f)
wrong_field l (Mark x f t v) = is_none (field_at l f)
wrong_field l c = false

-- whether the row numbers of a command are in range, where there are n rows
abbrev pub is_in_range : ℕ → Command → Bool
is_in_range n (Insert p vs) = nat_le p n
is_in_range n (Delete p q) = nat_le p q && nat_le q n
is_in_range n (Set p f v) = nat_lt p n
is_in_range n (Get p) = nat_lt p n
is_in_range n (Copy p q r) = nat_le p q && (nat_le q n && nat_le (r + (q - p)) n)
is_in_range n (Swap p q) = nat_lt p n && nat_lt q n
is_in_range n (Rotate p q k) = nat_le p q && (nat_le q n && nat_le k (q - p))
is_in_range n (Dup p q) = nat_le p q && nat_le q n
is_in_range n c = true

-- row: a row number, an amount or a count is out of range
abbrev pub wrong_row : ℕ → Command → Bool
wrong_row n c = not (is_in_range n c)

-- whether a field of the layout takes the number v
abbrev pub is_taken : LayoutShape → Option ℕ → ℤ → Bool
is_taken l place v = option_map_or (λ f. takes f v) (field_at l place) false

-- value: a number is out of its field's range
abbrev pub wrong_value : LayoutShape → Command → Bool
wrong_value l (Insert p vs) = not (take_all l.fields vs)
wrong_value l (Set p f v) = not (is_taken l f v)
wrong_value l (Mark x f t v) = not (is_taken l f v)
wrong_value l c = false

-- full: the rows after the command would have more bits than a table may have
abbrev pub too_full : TableShape → Command → Bool
too_full t c = nat_lt MAX_BITS (length (edit t c).rows * row_width t.layout.fields)

-- image: the bytes are no image of so many rows
abbrev pub wrong_image : LayoutShape → Command → Bool
wrong_image l (Load n bytes) = not (is_image l n bytes)
wrong_image l c = false

-- kept: nothing is kept
abbrev pub nothing_kept : Bool → Command → Bool
nothing_kept kept Back = not kept
nothing_kept kept c = false

-- the cause of the first condition that holds
abbrev pub first_of : List (Bool × Cause) → Option Cause
first_of [] = None
first_of (p ∷ ps) = if p.0 then Some p.1 else first_of ps

-- the cause that refuses a command in a table, if one does
unfoldable pub cause_in : TableShape → Command → Option Cause
cause_in t c =
    first_of ((wrong_form t.layout c, refusal.Form) ∷ (wrong_field t.layout c, refusal.Field)
    ∷ (wrong_row (length t.rows) c, refusal.Row) ∷ (wrong_value t.layout c, refusal.Value)
    ∷ (too_full t c, refusal.Full) ∷ (wrong_image t.layout c, refusal.Image)
    ∷ (nothing_kept (is_some t.kept) c, refusal.Kept) ∷ [])

-- the cause that refuses a line in a table, of which the words spell this command or none
abbrev pub spelled_cause : TableShape → Option Command → Option Cause
spelled_cause t None = Some refusal.Form
spelled_cause t (Some c) = cause_in t c

-- the cause that refuses a line in a state with this table or none
abbrev pub line_cause : Option TableShape → List ℕ → Option Cause
line_cause None line = if is_some (layout_of line) then None else Some refusal.Layout
line_cause (Some t) line = spelled_cause t (command_of t.layout line)

-- the first cause that applies to a line with a word in a state, if one does
abbrev pub cause : State → List ℕ → Option Cause
cause s line = line_cause (table_in s) line

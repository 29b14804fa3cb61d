-- What holds of a command that no cause refuses.
use Rattle.std.specs.Prelude.{◌≡◌, ℕ, ◌+◌, ◌-◌, ◌*◌, ◌<◌, ◌≤◌, true, Bool, is_some, ℤ, List, length, slice_get}
use Rattle.std.specs.Prelude.{Option, Some, ⊤}
use Rattle.bit_table_layout.specs.declared.layout.TheConstants.{MAX_BITS}
use Rattle.bit_table_layout.specs.Fields.{FieldShape, takes}
use Rattle.bit_table_layout.specs.Layouts.{LayoutShape, row_width}
use Rattle.bit_table_layout.specs.Loads.{is_image}
use Rattle.bit_table_layout.specs.Rows.{take_all}
use Rattle.bit_table_commands.specs.declared.command.Command.{Command}
use Rattle.bit_table_commands.specs.declared.command.Command.TheVariants.{Insert, Delete, Set, Get, Copy, Swap, Rotate}
use Rattle.bit_table_commands.specs.declared.command.Command.TheVariants.{Dup, Load, Back, Mark}
use Rattle.bit_table_commands.specs.Tables.{TableShape}
use Rattle.bit_table_commands.specs.Edits.{edit}

-- the row numbers of a command are in range, where there are n rows
abbrev pub IsInRange : ℕ → Command → Type 0
IsInRange n (Insert p vs) = p ≤ n
IsInRange n (Delete p q) = (p ≤ q) × (q ≤ n)
IsInRange n (Set p f v) = p < n
IsInRange n (Get p) = p < n
IsInRange n (Copy p q r) = (p ≤ q) × (q ≤ n) × (r + (q - p) ≤ n)
IsInRange n (Swap p q) = (p < n) × (q < n)
IsInRange n (Rotate p q k) = (p ≤ q) × (q ≤ n) × (k ≤ q - p)
IsInRange n (Dup p q) = (p ≤ q) × (q ≤ n)
IsInRange n c = ⊤

-- there is one number a field, and each field takes its number
pub record AreTaken (l : LayoutShape) (vs : List ℤ) : Type 0 where
  pub count : length vs ≡ length l.fields
  pub taken : take_all l.fields vs ≡ true

-- this is the place of a field of the layout, which takes the number v
pub record IsTaken (l : LayoutShape) (place : Option ℕ) (v : ℤ) : Type 0 where
  pub index : ℕ
  pub field : FieldShape
  pub place_is : place ≡ Some index
  pub field_is : slice_get l.fields index ≡ Some field
  pub taken : takes field v ≡ true

-- the fields of a layout are there for a command and take its numbers
abbrev pub HasLawfulValues : LayoutShape → Command → Type 0
HasLawfulValues l (Insert p vs) = AreTaken l vs
HasLawfulValues l (Set p f v) = IsTaken l f v
HasLawfulValues l (Mark x f t v) = IsTaken l f v
HasLawfulValues l c = ⊤

-- the bytes of a command are the image of so many rows
abbrev pub HasImage : LayoutShape → Command → Type 0
HasImage l (Load n bytes) = is_image l n bytes ≡ true
HasImage l c = ⊤

-- rows are kept, where a command wants them
abbrev pub HasKept : Bool → Command → Type 0
HasKept kept Back = kept ≡ true
HasKept kept c = ⊤

-- what holds of a command that no cause refuses in a table
pub record IsAccepted (t : TableShape) (c : Command) : Type 0 where
  pub in_range : IsInRange (length t.rows) c
  pub values : HasLawfulValues t.layout c
  pub room : length (edit t c).rows * row_width t.layout.fields ≤ MAX_BITS
  pub image : HasImage t.layout c
  pub kept : HasKept (is_some t.kept) c

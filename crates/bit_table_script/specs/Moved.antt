-- How many words the moves of a table's rows write.
use Rattle.std.specs.Prelude.{◌≡◌, ℕ, ◌+◌, ◌-◌, ◌*◌, ◌≤◌, List, ◌∷◌, length, slice_index}
use Rattle.std.specs.List.{All}
use Rattle.bit_addressing_memory.specs.Memory.{touched}
use Rattle.bit_table_layout.specs.Layouts.{row_width}
use Rattle.bit_table_commands.specs.declared.command.Command.{Command}
use Rattle.bit_table_commands.specs.declared.command.Command.TheVariants.{Insert, Delete, Drop}
use Rattle.bit_table_rows.specs.declared.edit.RowEdit.{RowEdit}
use Rattle.bit_table_rows.specs.declared.edit.RowEdit.TheVariants as edits
use Rattle.bit_table_script.specs.View.{TableView}

-- k rows came to stand from row q on: the move of the rows' list, of w bits a row, and that of each letter's list wrote
-- no more words of so many bits than these rows touch there
pub record AreMoved (word w q k : ℕ) (moved : List ℕ) : Type 0 where
  pub rows : ℕ
  pub letters : List ℕ
  pub are : moved ≡ rows ∷ letters
  pub rows_few : rows ≤ touched word (q * w) (k * w)
  pub letters_few : All (λ m. m ≤ touched word q k) letters

-- what an edit of rows leaves of them
abbrev pub MovedBy : ℕ → TableView → RowEdit → List ℕ → Type 0
MovedBy word old (edits.Insert p) moved =
    AreMoved word (row_width old.shape.layout.fields) (p + 1) (length old.shape.rows - p) moved
MovedBy word old (edits.Delete p q) moved =
    AreMoved word (row_width old.shape.layout.fields) p (length old.shape.rows - q) moved
MovedBy word old e moved = moved ≡ old.moved

-- what a command that was carried out leaves of the word writes of a table in words of so many bits
abbrev pub Moved : ℕ → TableView → Command → TableView → Type 0
Moved word old (Insert p vs) new =
    AreMoved word (row_width old.shape.layout.fields) (p + 1) (length old.shape.rows - p) new.moved
Moved word old (Delete p q) new =
    AreMoved word (row_width old.shape.layout.fields) p (length old.shape.rows - q) new.moved
Moved word old (Drop x) new =
    (m : AreMoved word (row_width old.shape.layout.fields) 0 (length new.shape.rows) new.moved)
    × (slice_index m.letters x ≡ 0)
Moved word old c new = new.moved ≡ old.moved

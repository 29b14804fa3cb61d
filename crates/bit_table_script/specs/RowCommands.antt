-- The commands that ask for an edit of rows alone. No public clause cites this module.
use Rattle.std.specs.Prelude.{◌≡◌, true, Bool, List, ℤ}
use Rattle.bit_table_layout.specs.Layouts.{LayoutShape}
use Rattle.bit_table_layout.specs.Rows.{numbers_bits, take_all}
use Rattle.bit_table_commands.specs.declared.command.Command.{Command}
use Rattle.bit_table_commands.specs.declared.command.Command.TheVariants.{Delete, Copy, Swap, Rotate, Dup}
use Rattle.bit_table_rows.specs.declared.edit.RowEdit.{RowEdit}
use Rattle.bit_table_rows.specs.declared.edit.RowEdit.TheVariants as edits

-- the command asks for this edit and nothing else; an insertion also asks for the numbers of a row
abbrev pub AsksFor : RowEdit → Command → Type 0
AsksFor (edits.Insert p) c = ⊥
AsksFor (edits.Delete p q) c = c ≡ Delete p q
AsksFor (edits.Copy p q r) c = c ≡ Copy p q r
AsksFor (edits.Swap p q) c = c ≡ Swap p q
AsksFor (edits.Rotate p q k) c = c ≡ Rotate p q k
AsksFor (edits.Dup p q) c = c ≡ Dup p q

-- these bits are those of a row of the numbers vs, which the fields of the layout take
pub record HasRowBits (l : LayoutShape) (vs : List ℤ) (bits : List Bool) : Type 0 where
  pub taken : take_all l.fields vs ≡ true
  pub are : bits ≡ numbers_bits l.rule l.fields vs

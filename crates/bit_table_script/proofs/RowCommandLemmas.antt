-- The commands that ask for an edit of rows alone: what holds of the edit, and what it does is what they do.
use Rattle.std.proofs.Common.{◌≡◌, ℕ, ◌+◌, ◌*◌, ◌≤◌, false, length, refl, sym, subst, arith}
use Rattle.std.proofs.lemmas.Bool.{false≢true}
use Rattle.bit_table_layout.specs.declared.layout.TheConstants.{MAX_BITS}
use Rattle.bit_table_layout.specs.Layouts.{row_width}
use Rattle.bit_table_layout.specs.Rows.{Row}
use Rattle.bit_table_commands.specs.declared.command.Command.{Command}
use Rattle.bit_table_commands.specs.Accepted.{IsInRange}
use Rattle.bit_table_commands.specs.Edits.{edit, reply_to}
use Rattle.bit_table_commands.specs.declared.reply.Reply.TheVariants.{Done}
use Rattle.bit_table_commands.specs.Tables.{TableShape}
use Rattle.bit_table_rows.specs.declared.edit.RowEdit.{RowEdit}
use Rattle.bit_table_rows.specs.declared.edit.RowEdit.TheVariants as edits
use Rattle.bit_table_rows.specs.RowEdit.{added, edited_by, taken_out, LiesIn, WhereNew}
use Rattle.bit_table_script.specs.Moved.{Moved, MovedBy}
use Rattle.bit_table_script.specs.Room.{IsWithinRoom, RoomAfter}
use Rattle.bit_table_script.specs.RowCommands.{AsksFor}
use Rattle.bit_table_script.specs.View.{may_want_memory, TableView}
use Rattle.bit_table_script.proofs.TableLemmas.{length-more}

-- an edit does what a command asks for
pub record DoesAll (c : Command) (e : RowEdit) : Type 1 where
  pub no_row : (P : Type 0) → WhereNew e P
  pub lies : (n : ℕ) → IsInRange n c → LiesIn n e
  pub fits : (t : TableShape) → IsInRange (length t.rows) c → length t.rows * row_width t.layout.fields ≤ MAX_BITS
      → length (edit t c).rows * row_width t.layout.fields ≤ MAX_BITS
      → (length t.rows + added e) * row_width t.layout.fields ≤ MAX_BITS
  pub does : (t : TableShape) (x : Row) → record t { rows = edited_by x e t.rows } ≡ edit t c
  pub replies : (t : TableShape) → Done ≡ reply_to t c
  pub moves : (word : ℕ) (old new : TableView) → MovedBy word old e new.moved → Moved word old c new
  pub succeeds : may_want_memory c ≡ false → added e ≡ 0
  pub within : (old : TableView) → IsWithinRoom old c → added e ≤ old.room
  pub rooms : (old new : TableView) → old.room + taken_out e ≤ new.room + added e → RoomAfter old c new

-- an edit takes out no more rows than there are
pub few_taken : (e : RowEdit) (n : ℕ) → LiesIn n e → taken_out e ≤ n
few_taken (edits.Insert p) n lies = omega arith
few_taken (edits.Delete p q) n lies = omega (arith, lies.0, lies.1)
few_taken (edits.Copy p q r) n lies = omega arith
few_taken (edits.Swap p q) n lies = omega arith
few_taken (edits.Rotate p q k) n lies = omega arith
few_taken (edits.Dup p q) n lies = omega arith

-- rows that are no more have the bits that they had
same_bits : (n w : ℕ) → n * w ≤ MAX_BITS → (n + 0) * w ≤ MAX_BITS
same_bits n w fits = let none : n + 0 ≡ n = omega arith in subst (λ k. k * w ≤ MAX_BITS) (sym none) fits

-- the edit that a command asks for
pub does_all : (e : RowEdit) (c : Command) → AsksFor e c → DoesAll c e
does_all (edits.Insert p) c is = absurd is
does_all (edits.Delete p q) c is = subst (λ c. DoesAll c (edits.Delete p q)) (sym is) (record {
  no_row = λ P. tt;
  lies = λ n within. within;
  fits = λ t within room all. same_bits (length t.rows) (row_width t.layout.fields) room;
  does = λ t x. refl;
  replies = λ t. refl;
  moves = λ word old new moved. moved;
  succeeds = λ few. refl;
  within = λ old is. absurd is;
  rooms = λ old new left. omega (arith, left);
})
does_all (edits.Copy p q r) c is = subst (λ c. DoesAll c (edits.Copy p q r)) (sym is) (record {
  no_row = λ P. tt;
  lies = λ n within. within;
  fits = λ t within room all. same_bits (length t.rows) (row_width t.layout.fields) room;
  does = λ t x. refl;
  replies = λ t. refl;
  moves = λ word old new moved. moved;
  succeeds = λ few. refl;
  within = λ old is. absurd is;
  rooms = λ old new left. omega (arith, left);
})
does_all (edits.Swap p q) c is = subst (λ c. DoesAll c (edits.Swap p q)) (sym is) (record {
  no_row = λ P. tt;
  lies = λ n within. within;
  fits = λ t within room all. same_bits (length t.rows) (row_width t.layout.fields) room;
  does = λ t x. refl;
  replies = λ t. refl;
  moves = λ word old new moved. moved;
  succeeds = λ few. refl;
  within = λ old is. absurd is;
  rooms = λ old new left. omega (arith, left);
})
does_all (edits.Rotate p q k) c is = subst (λ c. DoesAll c (edits.Rotate p q k)) (sym is) (record {
  no_row = λ P. tt;
  lies = λ n within. within;
  fits = λ t within room all. same_bits (length t.rows) (row_width t.layout.fields) room;
  does = λ t x. refl;
  replies = λ t. refl;
  moves = λ word old new moved. moved;
  succeeds = λ few. refl;
  within = λ old is. absurd is;
  rooms = λ old new left. omega (arith, left);
})
does_all (edits.Dup p q) c is = subst (λ c. DoesAll c (edits.Dup p q)) (sym is) (record {
  no_row = λ P. tt;
  lies = λ n within. within;
  fits = λ t within room all.
      subst (λ n. n * row_width t.layout.fields ≤ MAX_BITS) (length-more t.rows (length t.rows) p q refl within.1) all;
  does = λ t x. refl;
  replies = λ t. refl;
  moves = λ word old new moved. moved;
  succeeds = λ few. absurd (false≢true (sym few));
  within = λ old is. is;
  rooms = λ old new left. omega (arith, left);
})

-- The room of a table, and what a table is whose lists were given more.
use Rattle.std.proofs.Common.{◌≡◌, ℕ, ◌+◌, ◌-◌, ◌*◌, ◌≤◌, Bool, List, Option, length, ap, ap₂, ◌∙◌, subst, arith}
use Rattle.std.proofs.Math.Nat.{mul-le-mul_right}
use Rattle.bit_table_layout.specs.Layouts.{LayoutShape, row_width}
use Rattle.bit_table_layout.specs.LetterSets.{LetterSet}
use Rattle.bit_table_commands.specs.Tables.{TableShape}
use Rattle.bit_table_rows.proofs.PlaceLemmas.{place_behind}
use Rattle.bit_table_rows.specs.declared.edit.RowEdit.{RowEdit}
use Rattle.bit_table_rows.specs.declared.edit.RowEdit.TheVariants.{Insert, Delete, Copy, Swap, Rotate, Dup}
use Rattle.bit_table_script.specs.Moved.{AreMoved, MovedBy}
use Rattle.bit_table_script.specs.View.{AreStored, HaveSpace, StoredRows, TableView}
use Rattle.bit_table_script.proofs.TableLemmas.{view_from}

-- the room, where the views are equal
pub room_is : {v w : TableView} → v ≡ w → v.room ≡ w.room
room_is same = ap (λ (v : TableView). v.room) same

-- so many rows of w bits more fit, where they are no more than there is room for
pub bits_fit : (n space w bits letters more : ℕ) → HaveSpace n space w bits letters → more ≤ space - n
    → n * w + more * w ≤ bits
bits_fit n space w bits letters more h few =
    let all : (n + more) * w ≤ space * w = mul-le-mul_right w (omega (arith, few, h.within)) in
    omega (arith, all, h.bits, place_behind n more w)

-- lists that were made longer hold the same
pub stored_same : (l : LayoutShape) (n : ℕ) (bits now : List Bool) (letters marks : List LetterSet) → now ≡ bits
    → marks ≡ letters → AreStored l (record { rows = n; bits = bits; letters = letters })
    → AreStored l (record { rows = n; bits = now; letters = marks })
stored_same l n bits now letters marks same those stored = record {
  fits = ap length same ∙ stored.fits;
  room = stored.room;
  marked = ap length those ∙ stored.marked;
}

pub view_same : (l : LayoutShape) (n : ℕ) (bits now : List Bool) (letters marks : List LetterSet)
    (kept : Option StoredRows) (moved : List ℕ) (room : ℕ) → now ≡ bits → marks ≡ letters
    → view_from l (record { rows = n; bits = now; letters = marks }) kept moved room
    ≡ view_from l (record { rows = n; bits = bits; letters = letters }) kept moved room
view_same l n bits now letters marks kept moved room same those =
    ap₂ (λ b ls. view_from l (record { rows = n; bits = b; letters = ls }) kept moved room) same those

-- the writes of an edit are told of a table with the same rows
pub moved_from : (word : ℕ) (old mid : TableView) (e : RowEdit) (now : List ℕ) → mid.shape ≡ old.shape
    → mid.moved ≡ old.moved → MovedBy word mid e now → MovedBy word old e now
moved_from word old mid (Insert p) now shape moved is =
    subst (λ (s : TableShape). AreMoved word (row_width s.layout.fields) (p + 1) (length s.rows - p) now) shape is
moved_from word old mid (Delete p q) now shape moved is =
    subst (λ (s : TableShape). AreMoved word (row_width s.layout.fields) p (length s.rows - q) now) shape is
moved_from word old mid (Copy p q r) now shape moved is = is ∙ moved
moved_from word old mid (Swap p q) now shape moved is = is ∙ moved
moved_from word old mid (Rotate p q k) now shape moved is = is ∙ moved
moved_from word old mid (Dup p q) now shape moved is = is ∙ moved

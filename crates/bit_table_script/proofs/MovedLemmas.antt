-- The word writes of a table's moves.
use Rattle.std.proofs.Common.{◌≡◌, ℕ, ◌+◌, ◌-◌, ◌*◌, ◌≤◌, arith, refl, ap, ap₂, ◌∙◌, subst}
use Rattle.std.proofs.Common.{true, false, List, Option, ◌∷◌, length}
use Rattle.std.specs.List.{All}
use Rattle.std.specs.Prelude.{IfSome, slice_index}
use Rattle.bit_addressing_memory.specs.Memory.{touched}
use Rattle.bit_slice_views_mut.specs.Frame.{Frame}
use Rattle.bit_table_layout.specs.Layouts.{LayoutShape, is_layout, row_width}
use Rattle.bit_table_rows.specs.declared.edit.RowEdit.{RowEdit}
use Rattle.bit_table_rows.specs.declared.edit.RowEdit.TheVariants.{Insert, Delete, Copy, Swap, Rotate, Dup}
use Rattle.bit_table_rows.specs.RowEdit.{most_moved, moves_rows}
use Rattle.bit_table_script.specs.Moved.{AreMoved, MovedBy}
use Rattle.bit_table_script.specs.View.{AreStored, StoredRows, TableView}
use Rattle.bit_table_script.proofs.TableLemmas.{count_is, layout_is, view_from}

-- writes leave where a list begins
pub same_place : {X : Type 0} {new old : Frame X} → new ≡ old → new.place ≡ old.place
same_place same = ap (λ (f : Frame _). f.place) same

-- the rows from k on came to stand from row q on, by what the moves of their list and of the letters' lists say
module _ (v : TableView) (l : LayoutShape) (s : StoredRows) (kept : Option StoredRows) (moved : List ℕ) {room : ℕ}
    (e : view_from l s kept moved room ≡ v) (lawful : is_layout l ≡ true) (stored : AreStored l s)
    (kept_stored : IfSome kept (AreStored l)) where
  pub are_moved : (word q k h rows : ℕ) (letters now : List ℕ) → now ≡ rows ∷ letters → h ≡ 0
      → rows ≤ touched word (h + q * row_width l.fields) ((s.rows - k) * row_width l.fields)
      → All (λ m. m ≤ touched word (q * 1) ((length s.letters - k) * 1)) letters
      → AreMoved word (row_width v.shape.layout.fields) q (length v.shape.rows - k) now
  are_moved word q k h rows letters now is first few each =
      let layout = layout_is v l s kept moved e lawful stored kept_stored in
      let count = count_is v l s kept moved e lawful stored kept_stored in
      let begin : h + q * row_width l.fields ≡ q * row_width l.fields = omega (arith, first) in
      let place : h + q * row_width l.fields ≡ q * row_width v.shape.layout.fields =
      begin ∙ ap (λ (m : LayoutShape). q * row_width m.fields) layout in
      let size : (s.rows - k) * row_width l.fields ≡ (length v.shape.rows - k) * row_width v.shape.layout.fields =
      ap₂ (λ n (m : LayoutShape). (n - k) * row_width m.fields) count layout in
      let start : q * 1 ≡ q = omega arith in
      let marks : (length s.letters - k) * 1 ≡ length v.shape.rows - k =
      omega (arith, ap (λ n. n - k) (stored.marked ∙ count)) in
      record {
        rows = rows;
        letters = letters;
        are = is;
        rows_few = subst (λ b. rows ≤ b) (ap₂ (touched word) place size) few;
        letters_few = subst (λ b. All (λ m. m ≤ b) letters) (ap₂ (touched word) start marks) each;
      }

  -- and so after an edit of rows that moves some, and else no number is another one
  pub moved_by : (word : ℕ) (edit : RowEdit) (rows : ℕ) (letters now : List ℕ)
      → (moves_rows edit ≡ true → now ≡ rows ∷ letters) → (moves_rows edit ≡ false → now ≡ v.moved)
      → rows ≤ most_moved word (row_width l.fields) s.rows edit
      → All (λ m. m ≤ most_moved word 1 (length s.letters) edit) letters → MovedBy word v edit now
  moved_by word (Insert p) rows letters now is rests few each =
      let begin : (p + 1) * row_width l.fields ≡ 0 + (p + 1) * row_width l.fields = omega arith in
      are_moved word (p + 1) p 0 rows letters now (is refl) refl
      (subst (λ a. rows ≤ touched word a ((s.rows - p) * row_width l.fields)) begin few) each
  moved_by word (Delete p q) rows letters now is rests few each =
      let begin : p * row_width l.fields ≡ 0 + p * row_width l.fields = omega arith in
      are_moved word p q 0 rows letters now (is refl) refl
      (subst (λ a. rows ≤ touched word a ((s.rows - q) * row_width l.fields)) begin few) each
  moved_by word (Copy p q r) rows letters now is rests few each = rests refl
  moved_by word (Swap p q) rows letters now is rests few each = rests refl
  moved_by word (Rotate p q k) rows letters now is rests few each = rests refl
  moved_by word (Dup p q) rows letters now is rests few each = rests refl

  -- n rows that stay, of which the first stands first, and a list of which nothing moved
  pub are_together : (word h rows left n m x : ℕ) (letters now : List ℕ) → now ≡ rows ∷ letters → h ≡ 0 → left ≡ n
      → m ≡ n → rows ≤ touched word h (left * row_width l.fields) → All (λ k. k ≤ touched word 0 m) letters
      → slice_index letters x ≡ 0
      → (a : AreMoved word (row_width v.shape.layout.fields) 0 n now) × (slice_index a.letters x ≡ 0)
  are_together word h rows left n m x letters now is first some marks few each own =
      let layout = layout_is v l s kept moved e lawful stored kept_stored in
      let place : h ≡ 0 * row_width v.shape.layout.fields = omega (arith, first) in
      let size : left * row_width l.fields ≡ n * row_width v.shape.layout.fields =
      ap₂ (λ k (m : LayoutShape). k * row_width m.fields) some layout in (
        record {
          rows = rows;
          letters = letters;
          are = is;
          rows_few = subst (λ b. rows ≤ b) (ap₂ (touched word) place size) few;
          letters_few = subst (λ b. All (λ k. k ≤ touched word 0 b) letters) marks each;
        },
        own,
      )

-- A table as its packed bits give it back.
use Rattle.std.proofs.Common.{◌≡◌, ℕ, ◌+◌, ◌-◌, ◌*◌, ◌≤◌, true, List, Bool, ◌∷◌, ◌++◌, length}
use Rattle.std.proofs.Common.{take, drop, slice_range, arith, take_at, Option, Some, None, refl, sym, ap, ap₂, ◌∙◌}
use Rattle.std.proofs.Common.{subst}
use Rattle.std.specs.Prelude.{ℤ, count_by, filter, is_some, map, not, option_map, replicate, IfSome}
use Rattle.std.proofs.lemmas.List.{length-map}
use Rattle.bit_table_layout.specs.Loads.{bits_of_bytes, rows_in_bytes}
use Rattle.bit_table_layout.proofs.RowLemmas.{rows_from-take}
use Rattle.bit_table_commands.specs.Marks.{marked, row_bears}
use Rattle.bit_table_rows.specs.RowsKept.{kept}
use Rattle.bit_table_rows.proofs.KeptListLemmas.{rows_after_keep}
use Rattle.std.proofs.Math.Nat.{mul-le-mul_left}
use Rattle.std.specs.FinSet as set
use Rattle.std.proofs.lemmas.List.{places}
use Rattle.bit_addressing_memory.specs.Memory.{piece, with_piece}
use Rattle.bit_table_layout.specs.declared.layout.TheConstants.{MAX_BITS}
use Rattle.bit_table_layout.specs.Layouts.{LayoutShape, is_layout, row_width}
use Rattle.bit_table_layout.specs.Readings.{rows_from}
use Rattle.bit_table_layout.specs.Rows.{Row, table_bits}
use Rattle.bit_table_layout.specs.Images.{image_bytes, HasOnlyNumbers}
use Rattle.bit_table_layout.proofs.RowLemmas.{length-rows_from, are_rows-rows_from, table_bits-rows_from, some_row_bits}
use Rattle.bit_table_layout.proofs.ImageLemmas.{has_only_numbers}
use Rattle.bit_table_commands.specs.declared.command.Command.{Command}
use Rattle.bit_table_commands.specs.Accepted.{IsAccepted, IsInRange, HasLawfulValues}
use Rattle.bit_table_commands.specs.Edits.{edit, rows_after, kept_after}
use Rattle.bit_table_commands.specs.Tables.{TableShape, AreHeld, IsTable, IsTableOf}
use Rattle.bit_table_rows.specs.RowEdit.{added, edited_by, count_after, LiesIn, WhereNew}
use Rattle.bit_table_layout.specs.LetterSets.{LetterSet, bears}
use Rattle.bit_table_rows.specs.Marks.{decided}
use Rattle.bit_table_rows.proofs.LetterEditLemmas.{length-edited}
use Rattle.bit_table_rows.specs.declared.edit.RowEdit.{RowEdit}
use Rattle.bit_table_rows.specs.declared.edit.RowEdit.TheVariants.{Insert, Delete, Copy, Swap, Rotate, Dup}
use Rattle.bit_table_script.specs.Lettered.{lettered, all_letters, changed_at}
use Rattle.bit_table_script.specs.Told.{told}
use Rattle.bit_table_script.specs.View.{table_from, rows_of, StoredRows, AreStored, TableView}
use Rattle.bit_table_script.proofs.LetteredLemmas.{length-lettered, letters_lettered, bits_lettered, are_rows-lettered}
use Rattle.bit_table_script.proofs.LetteredLemmas.{lettered_edited, lettered_changed}
use Rattle.bit_table_script.proofs.MarkedLemmas.{blank-from, lettered_decided, lettered_told, staying-lettered}

-- the view of a table that stores these rows, and keeps these
abbrev pub view_from : LayoutShape → StoredRows → Option StoredRows → List ℕ → ℕ → TableView
view_from l s kept moved room = record { shape = table_from l s kept; moved = moved; room = room }

-- what is written first is the front
pub first_written : (xs ys : List Bool) (w : ℕ) → length ys ≡ w → take w (with_piece xs 0 ys) ≡ ys
unfolding with_piece
first_written xs ys w size = take_at ys (drop (0 + length ys) xs) w size

-- the first of a list
pub front_is : (xs : List Bool) (w : ℕ) → piece xs 0 w ≡ take w xs
unfolding piece
front_is xs w = refl

-- more rows, counted
pub length-more : {X : Type 0} (xs : List X) (n p q : ℕ) → length xs ≡ n → q ≤ n
    → length (xs ++ slice_range xs p q) ≡ n + (q - p)
length-more xs n p q size within = grind (arith, places)

pub length-one_more : {X : Type 0} (xs : List X) (n p : ℕ) (x : X) → length xs ≡ n → p ≤ n
    → length (take p xs ++ (x ∷ drop p xs)) ≡ n + 1
length-one_more xs n p x size within = grind (arith, places)

-- so many rows of a bit at least are no more than their bits
pub most_rows : (k w most : ℕ) → 1 ≤ w → k * w ≤ most → k ≤ most
most_rows k w most some fits = let each : k * 1 ≤ k * w = mul-le-mul_left k some in omega (arith, each)

-- what holds where a row is new, by what holds there
pub where_new : (edit : RowEdit) {P Q : Type 0} → (P → Q) → WhereNew edit P → WhereNew edit Q
where_new (Insert p) f holds = f holds
where_new (Delete p q) f holds = tt
where_new (Copy p q r) f holds = tt
where_new (Swap p q) f holds = tt
where_new (Rotate p q k) f holds = tt
where_new (Dup p q) f holds = tt

-- stored rows are as many as they say, with the bits that they are stored in, and are held by the layout
module _ (l : LayoutShape) (s : StoredRows) (stored : AreStored l s) where
  pub as_many : length (rows_from l s.rows s.bits) ≡ length s.letters
  as_many = length-rows_from l s.rows s.bits ∙ sym stored.marked

  pub length-stored : length (rows_of l s) ≡ s.rows
  length-stored = length-lettered (rows_from l s.rows s.bits) s.letters ∙ length-rows_from l s.rows s.bits

  bits_stored : s.bits ≡ table_bits l (rows_of l s)
  bits_stored =
      sym (table_bits-rows_from l s.rows s.bits stored.fits) ∙ sym (bits_lettered l (rows_from l s.rows s.bits) s.letters)

  held : is_layout l ≡ true → AreHeld l (rows_of l s)
  held lawful = record {
    lawful =
        are_rows-lettered l (rows_from l s.rows s.bits) s.letters ∙ are_rows-rows_from l s.rows s.bits lawful;
    room = subst (λ m. m * row_width l.fields ≤ MAX_BITS) (sym length-stored) stored.room;
  }

-- the rows after a change of letters, or when some of them go, or when others are loaded
module _ (l : LayoutShape) (s : StoredRows) (stored : AreStored l s) where
  pub rows_decided : (x : ℕ) (decide : LetterSet → Bool) (letters : List LetterSet)
      → letters ≡ decided x decide s.letters
      → rows_of l (record s { letters = letters }) ≡ marked x (λ (row : Row). decide row.letters) (rows_of l s)
  rows_decided x decide letters is =
      ap (lettered (rows_from l s.rows s.bits)) is
      ∙ lettered_decided x decide (rows_from l s.rows s.bits) s.letters (as_many l s stored)

  pub rows_told_by : (x : ℕ) (decide : Row → Bool) (letters : List LetterSet)
      → ((row : Row) (letters : LetterSet) → decide (record row { letters = letters }) ≡ decide row)
      → letters ≡ told x (map decide (rows_from l s.rows s.bits)) s.letters
      → rows_of l (record s { letters = letters }) ≡ marked x decide (rows_of l s)
  rows_told_by x decide letters blind is =
      ap (lettered (rows_from l s.rows s.bits)) is
      ∙ lettered_told x decide blind (rows_from l s.rows s.bits) s.letters (as_many l s stored)

  pub rows_staying : (x : ℕ) (now : StoredRows) → now.rows ≡ count_by not (map (bears x) s.letters)
      → now.bits ≡ kept (row_width l.fields) (map (bears x) s.letters) s.bits
      → now.letters ≡ filter (λ letters. not (bears x letters)) s.letters
      → rows_of l now ≡ filter (λ (row : Row). not (row_bears x row)) (rows_of l s)
  rows_staying x now count bits letters =
      ap₂ lettered (ap₂ (rows_from l) count bits
      ∙ rows_after_keep l s.rows s.bits (map (bears x) s.letters) stored.fits
      (length-map s.letters (bears x) ∙ stored.marked)) letters
      ∙ staying-lettered x (rows_from l s.rows s.bits) s.letters (as_many l s stored)

pub rows_loaded : (l : LayoutShape) (now : StoredRows) (bytes : List ℕ)
    → now.bits ≡ take (now.rows * row_width l.fields) (bits_of_bytes l.rule bytes)
    → now.letters ≡ replicate now.rows set.empty → rows_of l now ≡ rows_in_bytes l now.rows bytes
rows_loaded l now bytes bits letters =
    ap₂ lettered (ap (rows_from l now.rows) bits ∙ rows_from-take l now.rows (bits_of_bytes l.rule bytes)) letters
    ∙ blank-from l now.rows (bits_of_bytes l.rule bytes)

-- there are no more stored rows than a list may have bits, and as many sets of letters
module _ (l : LayoutShape) (s : StoredRows) (lawful : is_layout l ≡ true) (stored : AreStored l s) where
  pub few_rows : (more : ℕ) → (s.rows + more) * row_width l.fields ≤ MAX_BITS → length s.letters + more ≤ MAX_BITS
  few_rows more room =
      omega (arith, stored.marked, most_rows (s.rows + more) (row_width l.fields) MAX_BITS (some_row_bits l lawful) room)

  pub lies_in : (edit : RowEdit) → LiesIn s.rows edit → LiesIn (length s.letters) edit
  lies_in edit within = subst (λ n. LiesIn n edit) (sym stored.marked) within

  pub marked_after : (edit : RowEdit) (letters : List LetterSet) → LiesIn s.rows edit
      → letters ≡ edited_by set.empty edit s.letters → length letters ≡ count_after s.rows edit
  marked_after edit letters within same =
      ap length same ∙ length-edited edit set.empty s.letters (lies_in edit within)
      ∙ ap (λ n. count_after n edit) stored.marked

-- kept rows are held by the layout
held-kept : (l : LayoutShape) (kept : Option StoredRows) → is_layout l ≡ true → IfSome kept (AreStored l)
    → IfSome (option_map (rows_of l) kept) (AreHeld l)
held-kept l None lawful h = tt
held-kept l (Some k) lawful h = held l k h lawful

-- rows are kept where they are stored
is_some-kept : (l : LayoutShape) (kept : Option StoredRows) → is_some (option_map (rows_of l) kept) ≡ is_some kept
is_some-kept l None = refl
is_some-kept l (Some k) = refl

-- what the fields of a table say of it
module _ (v : TableView) (l : LayoutShape) (s : StoredRows) (kept : Option StoredRows) (moved : List ℕ) {room : ℕ}
    (e : view_from l s kept moved room ≡ v) (lawful : is_layout l ≡ true) (stored : AreStored l s)
    (kept_stored : IfSome kept (AreStored l)) where
  pub shape_is : table_from l s kept ≡ v.shape
  shape_is = ap (λ (x : TableView). x.shape) e

  pub layout_is : l ≡ v.shape.layout
  layout_is = ap (λ (x : TableView). x.shape.layout) e

  pub rows_are : rows_of l s ≡ v.shape.rows
  rows_are = ap (λ (x : TableView). x.shape.rows) e

  pub count_is : s.rows ≡ length v.shape.rows
  count_is = sym (length-stored l s stored) ∙ ap length rows_are

  pub bits_are : s.bits ≡ table_bits v.shape.layout v.shape.rows
  bits_are = bits_stored l s stored ∙ ap (λ (x : TableView). table_bits x.shape.layout x.shape.rows) e

  pub letters_are : s.letters ≡ all_letters v.shape.rows
  letters_are =
      sym (letters_lettered (rows_from l s.rows s.bits) s.letters (as_many l s stored)) ∙ ap all_letters rows_are

  pub kept_are : option_map (rows_of l) kept ≡ v.shape.kept
  kept_are = ap (λ (x : TableView). x.shape.kept) e

  pub is_kept : is_some kept ≡ is_some v.shape.kept
  is_kept = sym (is_some-kept l kept) ∙ ap is_some kept_are

  pub is_table : IsTable v.shape
  is_table = subst IsTable shape_is (record {
    layout = lawful;
    rows = held l s stored lawful;
    kept = held-kept l kept lawful kept_stored;
  })

  pub is_table_of : (has_kept : Bool) → has_kept ≡ is_some kept → IsTableOf l s.rows has_kept v.shape
  is_table_of has_kept same = record {
    lawful = is_table;
    layout = sym layout_is;
    count = sym count_is;
    kept = sym is_kept ∙ sym same;
  }

  -- the rows of a table are the only ones with their image
  pub only_numbers : HasOnlyNumbers v.shape.layout (length v.shape.rows) (image_bytes v.shape.layout v.shape.rows)
      v.shape.rows
  only_numbers =
      has_only_numbers v.shape.layout v.shape.rows is_table.layout is_table.rows.lawful

  -- ---- a command that no cause refuses

  pub in_range : (c : Command) → IsAccepted v.shape c → IsInRange s.rows c
  in_range c a = subst (λ k. IsInRange k c) (sym count_is) a.in_range

  pub values_are : (c : Command) → IsAccepted v.shape c → HasLawfulValues l c
  values_are c a = subst (λ k. HasLawfulValues k c) (sym layout_is) a.values

  -- its rows, counted, are no more than a table may have
  pub room_is : (c : Command) (k : ℕ) → IsAccepted v.shape c
      → length (rows_after (table_from l s kept) c) ≡ k → k * row_width l.fields ≤ MAX_BITS
  room_is c k a count =
      let had : length (edit (table_from l s kept) c).rows * row_width l.fields ≤ MAX_BITS =
      subst (λ (t : TableShape). length (edit t c).rows * row_width t.layout.fields ≤ MAX_BITS) (sym shape_is) a.room in
      subst (λ j. j * row_width l.fields ≤ MAX_BITS) count had

  -- the table after it, from what is stored and kept after it
  pub shape_after : (c : Command) (now : StoredRows) (kept' : Option StoredRows)
      → rows_of l now ≡ rows_after (table_from l s kept) c
      → option_map (rows_of l) kept' ≡ kept_after (table_from l s kept) c → table_from l now kept' ≡ edit v.shape c
  shape_after c now kept' rows still =
      ap₂ (λ rows kept. record { layout = l; rows = rows; kept = kept }) rows still ∙ ap (λ t. edit t c) shape_is

  -- the rows after an edit that moves them, from their bits and letters after it
  pub rows_edited : (edit : RowEdit) (x : Row) (now : StoredRows) → LiesIn s.rows edit
      → rows_from l now.rows now.bits ≡ edited_by x edit (rows_from l s.rows s.bits)
      → now.letters ≡ edited_by x.letters edit s.letters → rows_of l now ≡ edited_by x edit (rows_of l s)
  rows_edited edit x now within bits letters =
      lettered_edited edit x (rows_from l s.rows s.bits) (rows_from l now.rows now.bits) s.letters now.letters
      (as_many l s stored) (subst (λ n. LiesIn n edit) (sym stored.marked) within) bits letters

  -- an edit of the rows that a script sees is one of those that are stored
  pub edit_lies : (edit : RowEdit) → LiesIn (length v.shape.rows) edit → LiesIn s.rows edit
  edit_lies edit = subst (λ k. LiesIn k edit) (sym count_is)

  pub more_fit : (more : ℕ)
      → (length v.shape.rows + more) * row_width v.shape.layout.fields ≤ MAX_BITS
      → (s.rows + more) * row_width l.fields ≤ MAX_BITS
  more_fit more room =
      subst (λ k. (k + more) * row_width l.fields ≤ MAX_BITS) (sym count_is)
      (subst (λ (m : LayoutShape). (length v.shape.rows + more) * row_width m.fields ≤ MAX_BITS) (sym layout_is)
      room)

  pub edit_fits : (edit : RowEdit)
      → (length v.shape.rows + added edit) * row_width v.shape.layout.fields ≤ MAX_BITS
      → (s.rows + added edit) * row_width l.fields ≤ MAX_BITS
  edit_fits edit room = more_fit (added edit) room

  -- the table after it
  pub shape_edited : (edit : RowEdit) (x : Row) (now : StoredRows) → LiesIn s.rows edit
      → rows_from l now.rows now.bits ≡ edited_by x edit (rows_from l s.rows s.bits)
      → now.letters ≡ edited_by x.letters edit s.letters
      → table_from l now kept ≡ record v.shape { rows = edited_by x edit v.shape.rows }
  shape_edited edit x now within bits letters =
      ap (λ rows. record { layout = l; rows = rows; kept = option_map (rows_of l) kept })
      (rows_edited edit x now within bits letters)
      ∙ ap (λ (t : TableShape). record t { rows = edited_by x edit t.rows }) shape_is

  -- the rows after a change of one row's numbers
  pub rows_changed : (change : List ℤ → List ℤ) (p : ℕ) (now : StoredRows)
      → rows_from l now.rows now.bits
      ≡ changed_at (λ (r : Row). record r { numbers = change r.numbers }) p (rows_from l s.rows s.bits)
      → now.letters ≡ s.letters
      → rows_of l now ≡ changed_at (λ (r : Row). record r { numbers = change r.numbers }) p (rows_of l s)
  rows_changed change p now bits letters =
      ap₂ lettered bits letters ∙ lettered_changed change p (rows_from l s.rows s.bits) s.letters (as_many l s stored)

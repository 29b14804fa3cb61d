-- The table that a command leaves is a table.
use Rattle.std.proofs.Common.{◌≡◌, ℕ, zero, suc, ◌+◌, ◌-◌, ◌<◌, not, Bool, true, ℤ, List, [], ◌∷◌, ◌++◌}
use Rattle.std.proofs.Common.{length, map, take, drop, get_or, set, Option, Some, None, refl, ap, ◌∙◌, arith}
use Rattle.std.specs.Prelude.{slice_get, slice_range, unwrap_or, IfSome}
use Rattle.std.specs.List.{All, swap}
use Rattle.std.proofs.lemmas.List.Elements.{All-get_or, All-append, All-cons, All-take, All-drop, All-map, All-set}
use Rattle.std.proofs.lemmas.List.Elements.{All-filter}
use Rattle.std.proofs.lemmas.List.Sums.{AllPass-from_list_all, list_all-from_AllPass}
use Rattle.bit_table_layout.specs.Fields.{FieldShape, takes}
use Rattle.bit_table_layout.specs.Layouts.{LayoutShape}
use Rattle.bit_table_layout.specs.Rows.{Row, new_row, take_all, is_row}
use Rattle.bit_table_layout.specs.Loads.{rows_in_bytes}
use Rattle.bit_table_layout.proofs.LoadLemmas.{are_rows-rows_in_bytes}
use Rattle.bit_table_layout.specs.Letters.{combined}
use Rattle.bit_table_layout.specs.LetterSets.{with_letter}
use Rattle.bit_table_commands.specs.declared.command.Command.{Command}
use Rattle.bit_table_commands.specs.declared.command.Command.TheVariants.{Insert, Delete, Set, Copy, Swap, Rotate, Dup}
use Rattle.bit_table_commands.specs.declared.command.Command.TheVariants.{Load, Keep, Back, Mark, Combine, Not, Drop}
use Rattle.bit_table_commands.specs.Accepted.{IsInRange, HasLawfulValues, IsTaken}
use Rattle.bit_table_commands.specs.Causes.{cause_in}
use Rattle.bit_table_commands.specs.Edits.{edit, edited, rows_after, kept_after, with_number}
use Rattle.bit_table_commands.specs.Marks.{row_bears, marked, passes, number_in_field}
use Rattle.bit_table_commands.specs.Tables.{TableShape, AreHeld, IsTable}
use Rattle.bit_table_commands.proofs.CauseLemmas.{accepted, held-kept}

-- numbers of which one is put in another's place, which its field takes
take_all-set : (fs : List FieldShape) (vs : List ℤ) (k : ℕ) (f : FieldShape) (v : ℤ) → take_all fs vs ≡ true
    → slice_get fs k ≡ Some f → takes f v ≡ true → take_all fs (set vs k v) ≡ true
take_all-set [] vs k f v h e t = absurd cc
take_all-set (g ∷ fs) [] k f v h e t = absurd cc
take_all-set (g ∷ fs) (w ∷ vs) zero f v h e t =
    let same : g ≡ f = cc in
    let rest : take_all fs vs ≡ true = grind arith in
    let one : takes g v ≡ true = cc in
    rw (one, rest) refl
take_all-set (g ∷ fs) (w ∷ vs) (suc k) f v h e t =
    let first : takes g w ≡ true = grind arith in
    let rest : take_all fs vs ≡ true = grind arith in
    let others = take_all-set fs vs k f v rest e t in
    rw (first, others) refl

-- a row of the layout
abbrev IsRow : LayoutShape → Row → Type 0
IsRow l row = is_row l row ≡ true

numbered : (l : LayoutShape) (place : Option ℕ) (v : ℤ) (row : Row) → IsTaken l place v → IsRow l row
    → IsRow l (with_number place v row)
numbered l None v row t h = h
numbered l (Some k) v row t h =
    let same : k ≡ t.index = cc (t.place_is) in
    take_all-set l.fields row.numbers k t.field v h (ap (slice_get l.fields) same ∙ t.field_is) t.taken

part : (l : LayoutShape) (rows : List Row) (p q : ℕ) → All (IsRow l) rows → All (IsRow l) (slice_range rows p q)
part l rows p q h = All-take (IsRow l) (q - p) (drop p rows) (All-drop (IsRow l) p rows h)

swapped : (l : LayoutShape) (rows : List Row) (p q : ℕ) → p < length rows → q < length rows → All (IsRow l) rows
    → All (IsRow l) (swap rows p q)
swapped l [] p q a b h = absurd (omega arith)
swapped l (d ∷ rows) p q a b h =
    let all = d ∷ rows in
    let once = All-set (IsRow l) all p (get_or all q d) (All-get_or (IsRow l) all q d b h) h in
    All-set (IsRow l) (set all p (get_or all q d)) q (get_or all p d) (All-get_or (IsRow l) all p d a h) once

-- marks leave numbers as they are
remarked : (l : LayoutShape) (x : ℕ) (decide : Row → Bool) (rows : List Row) → All (IsRow l) rows
    → All (IsRow l) (marked x decide rows)
remarked l x decide rows h =
    All-map (IsRow l) (λ (row : Row). record row { letters = with_letter x (decide row) row.letters }) rows h

-- rows that are rows of the layout stay so
pub edited-rows : (l : LayoutShape) (rows : List Row) (c : Command) → All (IsRow l) rows → IsInRange (length rows) c
    → HasLawfulValues l c → All (IsRow l) (edited rows c)
edited-rows l rows (Insert p vs) h k v =
    All-append (IsRow l) (take p rows) (new_row vs ∷ drop p rows) (All-take (IsRow l) p rows h)
    (All-cons (IsRow l) (new_row vs) (drop p rows) v.taken (All-drop (IsRow l) p rows h))
edited-rows l rows (Delete p q) h k v =
    All-append (IsRow l) (take p rows) (drop q rows) (All-take (IsRow l) p rows h) (All-drop (IsRow l) q rows h)
edited-rows l rows (Set p f x) h k v =
    All-append (IsRow l) (take p rows) (map (with_number f x) (slice_range rows p (p + 1)) ++ drop (p + 1) rows)
    (All-take (IsRow l) p rows h)
    (All-append (IsRow l) (map (with_number f x) (slice_range rows p (p + 1))) (drop (p + 1) rows)
    (All-map (IsRow l) (with_number f x) (slice_range rows p (p + 1))
    (λ i d below. numbered l f x (get_or (slice_range rows p (p + 1)) i d) v (part l rows p (p + 1) h i d below)))
    (All-drop (IsRow l) (p + 1) rows h))
edited-rows l rows (Copy p q r) h k v =
    All-append (IsRow l) (take r rows) (slice_range rows p q ++ drop (r + (q - p)) rows) (All-take (IsRow l) r rows h)
    (All-append (IsRow l) (slice_range rows p q) (drop (r + (q - p)) rows) (part l rows p q h)
    (All-drop (IsRow l) (r + (q - p)) rows h))
edited-rows l rows (Swap p q) h (a, b) v = swapped l rows p q a b h
edited-rows l rows (Rotate p q k) h r v =
    All-append (IsRow l) (take p rows) (slice_range rows (p + k) q ++ (slice_range rows p (p + k) ++ drop q rows))
    (All-take (IsRow l) p rows h)
    (All-append (IsRow l) (slice_range rows (p + k) q) (slice_range rows p (p + k) ++ drop q rows)
    (part l rows (p + k) q h)
    (All-append (IsRow l) (slice_range rows p (p + k)) (drop q rows) (part l rows p (p + k) h)
    (All-drop (IsRow l) q rows h)))
edited-rows l rows (Dup p q) h k v = All-append (IsRow l) rows (slice_range rows p q) h (part l rows p q h)
edited-rows l rows (Mark x f t y) h k v = remarked l x (λ row. passes t (number_in_field f row) y) rows h
edited-rows l rows (Combine op x y) h k v =
    remarked l x (λ row. combined op (row_bears x row) (row_bears y row)) rows h
edited-rows l rows (Not x) h k v = remarked l x (λ row. not (row_bears x row)) rows h
edited-rows l rows (Drop x) h k v = All-filter (λ row. not (row_bears x row)) (IsRow l) rows h
edited-rows l rows c h k v = h

-- the rows that a command leaves are rows of the layout
rows-after : (t : TableShape) (c : Command) → IsTable t → IsInRange (length t.rows) c → HasLawfulValues t.layout c
    → All (IsRow t.layout) (rows_after t c)
rows-after t Back h k v =
    AllPass-from_list_all (is_row t.layout) (unwrap_or t.kept t.rows)
    (held-kept t.layout t.kept t.rows h.kept h.rows).lawful
rows-after t (Load n bytes) h k v =
    AllPass-from_list_all (is_row t.layout) (rows_in_bytes t.layout n bytes)
    (are_rows-rows_in_bytes t.layout n bytes h.layout)
rows-after t c h k v =
    edited-rows t.layout t.rows c (AllPass-from_list_all (is_row t.layout) t.rows h.rows.lawful) k v

-- the rows that are kept after a command are held, too
kept-after : (t : TableShape) (c : Command) → IsTable t → IfSome (kept_after t c) (AreHeld t.layout)
kept-after t Keep h = h.rows
kept-after t Back h = tt
kept-after t c h = h.kept

-- the table that a command leaves which no cause refuses
pub edit-is_table : (t : TableShape) → IsTable t → (c : Command) → cause_in t c ≡ None → IsTable (edit t c)
edit-is_table t h c e =
    let a = accepted t c e in
    record {
      layout = h.layout;
      rows = record {
        lawful = list_all-from_AllPass (is_row t.layout) (rows_after t c) (rows-after t c h a.in_range a.values);
        room = a.room;
      };
      kept = kept-after t c h;
    }

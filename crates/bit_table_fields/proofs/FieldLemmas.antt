-- The numbers of a row, one field after another: stored by `stored_more`, loaded by `loaded_more`.
use Rattle.std.proofs.Common.{◌≡◌, ℕ, zero, suc, ◌+◌, ◌<◌, ◌≤◌, Bool, List, [], ◌∷◌, ◌++◌, length, take, drop}
use Rattle.std.proofs.Common.{get_or, ℤ, pos, sym, refl, ap, ap₂, ◌∙◌, arith, append_assoc, length-append}
use Rattle.std.proofs.lemmas.List.{append-nil, drop-drop, drop-take, length-take, places, same_lists, take-take}
use Rattle.std.proofs.lemmas.List.Sums.{sum_by-cons, sum_by_more_le}
use Rattle.bit_addressing_memory.specs.Memory.{piece, with_piece}
use Rattle.bit_table_layout.specs.declared.layout.Rule.{Rule}
use Rattle.bit_table_fields.specs.Windows.{number_held}
use Rattle.bit_table_layout.specs.Fields.{FieldShape}
use Rattle.bit_table_layout.specs.Layouts.{row_width}
use Rattle.bit_table_layout.specs.Readings.{number_from, numbers_from}
use Rattle.bit_table_layout.specs.Rows.{field_bits, numbers_bits}
use Rattle.bit_table_layout.proofs.ReadingLemmas.{length-field_bits}

-- ---- stored

-- as many bits as the fields have
pub length-numbers : (rule : Rule) (fs : List FieldShape) (vs : List ℤ) → length vs ≡ length fs
    → length (numbers_bits rule fs vs) ≡ row_width fs
length-numbers rule [] vs size = refl
length-numbers rule (f ∷ fs) [] size = absurd (omega arith)
length-numbers rule (f ∷ fs) (v ∷ vs) size =
    length-append (field_bits rule f.width v) (numbers_bits rule fs vs)
    ∙ ap₂ (λ a b. a + b) (length-field_bits rule f.width v) (length-numbers rule fs vs (omega arith))
    ∙ sym (sum_by-cons (λ (g : FieldShape). g.width) f fs)

-- the bits of the fields up to field i
pub numbers_more : (rule : Rule) (fs : List FieldShape) (vs : List ℤ) (i : ℕ) (f : FieldShape) (v : ℤ) → i < length fs
    → i < length vs
    → numbers_bits rule (take (i + 1) fs) (take (i + 1) vs)
    ≡ numbers_bits rule (take i fs) (take i vs) ++ field_bits rule (get_or fs i f).width (get_or vs i v)
numbers_more rule [] vs i f v h k = absurd (omega arith)
numbers_more rule (g ∷ fs) [] i f v h k = absurd (omega arith)
numbers_more rule (g ∷ fs) (w ∷ vs) zero f v h k = append-nil (field_bits rule g.width w)
numbers_more rule (g ∷ fs) (w ∷ vs) (suc i) f v h k =
    let first = field_bits rule g.width w in
    let count : suc i + 1 ≡ suc (i + 1) = omega arith in
    ap (λ m. numbers_bits rule (take m (g ∷ fs)) (take m (w ∷ vs))) count
    ∙ ap (λ l. first ++ l) (numbers_more rule fs vs i f v (omega arith) (omega arith))
    ∙ sym (append_assoc first (numbers_bits rule (take i fs) (take i vs)) _)

-- a list written behind another one that was written
pub written_behind : (xs ys zs : List Bool) (a b : ℕ) → b ≡ a + length ys → b + length zs ≤ length xs
    → with_piece (with_piece xs a ys) b zs ≡ with_piece xs a (ys ++ zs)
unfolding with_piece
written_behind xs ys zs a b is fits = same_lists _ _ (grind (arith, places)) (λ k d h. grind (arith, places))

-- one field more was stored
pub stored_more : (rule : Rule) (fs : List FieldShape) (vs : List ℤ) (i a place w : ℕ) (v : ℤ) (f : FieldShape)
    (old now new : List Bool) → i < length fs → length vs ≡ length fs → w ≡ (get_or fs i f).width
    → v ≡ get_or vs i (pos 0) → place ≡ a + row_width (take i fs) → a + row_width fs ≤ length old
    → now ≡ with_piece old a (numbers_bits rule (take i fs) (take i vs))
    → new ≡ with_piece now place (field_bits rule w v)
    → new ≡ with_piece old a (numbers_bits rule (take (i + 1) fs) (take (i + 1) vs))
stored_more rule fs vs i a place w v f old now new low count is_w is_v at room before wrote =
    let ys = numbers_bits rule (take i fs) (take i vs) in
    let zs = field_bits rule (get_or fs i f).width (get_or vs i (pos 0)) in
    let counts : length (take i vs) ≡ length (take i fs) = omega (arith, length-take i vs, length-take i fs) in
    let size = length-numbers rule (take i fs) (take i vs) counts in
    let next = length-field_bits rule (get_or fs i f).width (get_or vs i (pos 0)) in
    let fits = sum_by_more_le (λ (g : FieldShape). g.width) fs i f low in
    wrote
    ∙ ap₂ (λ l part. with_piece l place part) before (ap₂ (field_bits rule) is_w is_v)
    ∙ written_behind old ys zs a place (omega arith) (omega arith)
    ∙ ap (with_piece old a) (sym (numbers_more rule fs vs i f (pos 0) low (omega arith)))

-- ---- loaded

-- the first field's number, and those of the others
loaded_first : (rule : Rule) (g : FieldShape) (fs : List FieldShape) (bits : List Bool) (a : ℕ)
    → numbers_from rule (g ∷ fs) (piece bits a (row_width (g ∷ fs)))
    ≡ number_from rule g (piece bits a g.width) ∷ numbers_from rule fs (piece bits (a + g.width) (row_width fs))
unfolding piece
loaded_first rule g fs bits a =
    let m = row_width fs in
    ap (λ k. numbers_from rule (g ∷ fs) (take k (drop a bits))) (sum_by-cons (λ (h : FieldShape). h.width) g fs)
    ∙ ap₂ (λ x xs. number_from rule g x ∷ numbers_from rule fs xs)
    (take-take g.width (g.width + m) (drop a bits) (omega arith))
    (drop-take g.width m (drop a bits) ∙ ap (take m) (drop-drop g.width a bits))

-- the numbers of the fields up to field i
numbers_loaded : (rule : Rule) (fs : List FieldShape) (i : ℕ) (f : FieldShape) (bits : List Bool) (a : ℕ)
    → i < length fs
    → numbers_from rule (take (i + 1) fs) (piece bits a (row_width (take (i + 1) fs)))
    ≡ numbers_from rule (take i fs) (piece bits a (row_width (take i fs)))
    ++ number_from rule (get_or fs i f) (piece bits (a + row_width (take i fs)) (get_or fs i f).width) ∷ []
numbers_loaded rule [] i f bits a low = absurd (omega arith)
numbers_loaded rule (g ∷ fs) zero f bits a low =
    let at : a ≡ a + 0 = omega arith in
    loaded_first rule g [] bits a ∙ ap (λ k. number_from rule g (piece bits k g.width) ∷ []) at
numbers_loaded rule (g ∷ fs) (suc i) f bits a low =
    let count : suc i + 1 ≡ suc (i + 1) = omega arith in
    let first = number_from rule g (piece bits a g.width) in
    let width = sum_by-cons (λ (h : FieldShape). h.width) g (take i fs) in
    let at : a + g.width + row_width (take i fs) ≡ a + row_width (g ∷ take i fs) = omega arith in
    let had = numbers_from rule (take i fs) (piece bits (a + g.width) (row_width (take i fs))) in
    ap (λ m. numbers_from rule (take m (g ∷ fs)) (piece bits a (row_width (take m (g ∷ fs))))) count
    ∙ loaded_first rule g (take (i + 1) fs) bits a
    ∙ ap (λ xs. first ∷ xs) (numbers_loaded rule fs i f bits (a + g.width) (omega arith))
    ∙ ap (λ k. first ∷ (had ++ number_from rule (get_or fs i f) (piece bits k (get_or fs i f).width) ∷ [])) at
    ∙ ap (λ xs. xs ++ number_from rule (get_or fs i f)
    (piece bits (a + row_width (g ∷ take i fs)) (get_or fs i f).width) ∷ [])
    (sym (loaded_first rule g (take i fs) bits a))

-- one field more was loaded
pub loaded_more : (rule : Rule) (fs : List FieldShape) (i a place w : ℕ) (signed : Bool) (f : FieldShape)
    (bits : List Bool) (x : ℤ) (had now : List ℤ) → i < length fs → f ≡ get_or fs i f → w ≡ f.width
    → signed ≡ f.signed → place ≡ a + row_width (take i fs) → x ≡ number_held rule signed w (piece bits place w)
    → had ≡ numbers_from rule (take i fs) (piece bits a (row_width (take i fs))) → now ≡ had ++ x ∷ []
    → now ≡ numbers_from rule (take (i + 1) fs) (piece bits a (row_width (take (i + 1) fs)))
loaded_more rule fs i a place w signed f bits x had now low is is_w is_signed at loaded before pushed =
    let held : x ≡ number_from rule f (piece bits (a + row_width (take i fs)) f.width) =
    loaded
    ∙ ap₂ (λ s k. number_held rule s k (piece bits place k)) is_signed is_w
    ∙ ap (λ k. number_from rule f (piece bits k f.width)) at in
    pushed
    ∙ ap₂ (λ xs y. xs ++ y ∷ []) before
    (held ∙ ap (λ (g : FieldShape). number_from rule g (piece bits (a + row_width (take i fs)) g.width)) is)
    ∙ sym (numbers_loaded rule fs i f bits a low)

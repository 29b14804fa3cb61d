-- Names as numbers, and fields whose names are new.
use Rattle.std.proofs.Common.{◌≡◌, inl, inr, ℕ, ◌+◌, ◌*◌, ◌^◌, ◌<◌, ◌≤◌, ◌==◌, not, ◌&&◌, ◌||◌, leb}
use Rattle.std.proofs.Common.{Bool, true, false, List, [], ◌∷◌, ◌++◌, length, arith, refl, sym, ap, ◌∙◌}
use Rattle.std.specs.Prelude.{slice_index}
use Rattle.std.specs.Char.{is_ascii_lowercase}
use Rattle.std.specs.List.{list_all}
use Rattle.std.specs.Str.{bytes_eq}
use Rattle.std.proofs.Math.Nat.{pow-le-pow_right}
use Rattle.std.proofs.lemmas.Bool.{and_parts, leb-true, eq-eqb, eqb-true, cases_Bool, false≢true}
use Rattle.std.proofs.lemmas.Slice.Eq.{bytes_eq-Decides}
use Rattle.std.proofs.Math.Bool.{or-false}
use Rattle.std.proofs.lemmas.List.Folds.{list_any-append}
use Rattle.bit_table_layout.specs.Fields.{FieldShape, is_name, is_name_byte, is_field}
use Rattle.bit_table_layout.specs.Layouts.{has_name}
use Rattle.bit_table_layout.specs.Steps.{name_number, has_number, are_new}

-- a byte of a name is a digit to the base 256 other than zero
name_byte-bounds : (b : ℕ) → is_name_byte b ≡ true → (0 < b) × (b < 256)
name_byte-bounds b is = grind arith

-- one more byte fits a number of 128 bits
pub number-fits : (k n b : ℕ) → k < 16 → n < 256 ^ k → b < 256 → 256 * n + b < 2 ^ 128
number-fits k n b few below byte =
    let last : k ≤ 15 = omega arith in
    let most : 256 ^ k ≤ 256 ^ 15 = pow-le-pow_right (omega arith) last in
    omega arith

-- a name has at most 16 bytes
pub name-short : (name : List ℕ) → is_name name ≡ true → length name ≤ 16
name-short name is = leb-true _ _ (and_parts _ _ (and_parts _ _ is).1).0

-- each byte of a name is one of a name
name_bytes : (name : List ℕ) → is_name name ≡ true → list_all is_name_byte name ≡ true
name_bytes name is =
    let some = and_parts (leb 1 (length name)) _ is in
    let few = and_parts (leb (length name) 16) _ some.1 in
    (and_parts (is_ascii_lowercase (slice_index name 0)) _ few.1).1

-- names with the same number are the same
same_names : (xs ys : List ℕ) → list_all is_name_byte xs ≡ true → list_all is_name_byte ys ≡ true
    → name_number xs ≡ name_number ys → xs ≡ ys
same_names [] [] xs_are ys_are same = refl
same_names [] (y ∷ ys) xs_are ys_are same =
    let some = name_byte-bounds y (and_parts _ _ ys_are).0 in absurd (omega arith)
same_names (x ∷ xs) [] xs_are ys_are same =
    let some = name_byte-bounds x (and_parts _ _ xs_are).0 in absurd (omega arith)
same_names (x ∷ xs) (y ∷ ys) xs_are ys_are same =
    let x_is = and_parts _ _ xs_are in
    let y_is = and_parts _ _ ys_are in
    let x_digit = name_byte-bounds x x_is.0 in
    let y_digit = name_byte-bounds y y_is.0 in
    let first : x ≡ y = omega arith in
    let others : name_number xs ≡ name_number ys = omega arith in
    ap (λ z. z ∷ xs) first ∙ ap (λ zs. y ∷ zs) (same_names xs ys x_is.1 y_is.1 others)

-- two names are equal exactly if their numbers are
name_number-eq : (name other : List ℕ) → is_name name ≡ true → is_name other ≡ true
    → (name_number name == name_number other) ≡ bytes_eq other name
name_number-eq name other is_first is_other =
    let decides = bytes_eq-Decides other name in
    elim (cases_Bool (bytes_eq other name)) [
      | inl same ↦ eq-eqb (name_number name) (name_number other) (ap name_number (sym (decides.0 same))) ∙ sym same
      | inr differ ↦
          elim (cases_Bool (name_number name == name_number other)) [
            | inl equal ↦
                let number : name_number other ≡ name_number name = sym (eqb-true _ _ equal) in
                let is = same_names other name (name_bytes other is_other) (name_bytes name is_first) number in
                absurd (false≢true (sym differ ∙ decides.1 is))
            | inr unequal ↦ unequal ∙ sym differ
          ]
    ]

new-more : (a b c d : Bool) → (not (a || b) && (c && not d)) ≡ ((not a && c) && not (b || d))
new-more true b c d = refl
new-more false true true d = refl
new-more false true false d = refl
new-more false false c d = refl

-- with one number more, that of a name, the fields have no such name either
pub are_new-more : (numbers : List ℕ) (name : List ℕ) (fields : List FieldShape) → is_name name ≡ true
    → list_all is_field fields ≡ true
    → are_new (numbers ++ name_number name ∷ []) fields ≡ (are_new numbers fields && not (has_name name fields))
are_new-more numbers name [] named lawful = refl
are_new-more numbers name (f ∷ fs) named lawful =
    let parts = and_parts _ _ lawful in
    let other : is_name f.name ≡ true = (and_parts _ _ parts.0).0 in
    let met = list_any-append (λ n. n == name_number f.name) numbers (name_number name ∷ []) in
    let last : has_number (name_number name ∷ []) (name_number f.name) ≡ bytes_eq f.name name =
    or-false _ ∙ name_number-eq name f.name named other in
    let now = has_number numbers (name_number f.name) in
    let later = are_new-more numbers name fs named parts.1 in
    ap (λ b. not b && are_new (numbers ++ name_number name ∷ []) fs) (met ∙ ap (λ b. now || b) last)
    ∙ ap (λ b. not (now || bytes_eq f.name name) && b) later
    ∙ new-more now (bytes_eq f.name name) (are_new numbers fs) (has_name name fs)

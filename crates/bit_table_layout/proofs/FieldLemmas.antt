-- Field words: their parts, and the fields that they spell.
use Rattle.std.proofs.Common.{◌≡◌, inl, inr, ◌||◌, ℕ, ◌+◌, ◌-◌, ◌≤◌, ◌==◌, ◌&&◌, eqb, leb, Bool, true, List, []}
use Rattle.std.proofs.Common.{◌∷◌, length, take, drop, get_or, Option, Some, None, arith, refl, sym, ap, ◌∙◌, subst}
use Rattle.std.specs.List.{position_or_len}
use Rattle.std.proofs.lemmas.List.{take_all, drop_all}
use Rattle.std.proofs.lemmas.Bool.{cases_Bool, cond-false, cond-true, and_from, and_parts}
use Rattle.std.proofs.lemmas.Bool.{le-leb, leb-true, eqb-false, not-true}
use Rattle.bit_table_layout.proofs.NumeralLemmas.{number-positive}
use Rattle.bit_table_layout.specs.Numerals.{number_of}
use Rattle.bit_table_layout.specs.Fields.{FieldShape, is_name, is_width, name_part, kind_part, field_from, field_of}
use Rattle.bit_table_layout.specs.Fields.{is_field}
use Rattle.bit_table_layout.proofs.PlaceLemmas.{position_in, position_in-None, position_in-Some, whole_rest}

-- whether a byte is a colon
abbrev pub is_colon : ℕ → Bool
is_colon b = b == 58

-- the parts where the colon was found
pub parts-Some : (word : List ℕ) (found : Option ℕ) (colon : ℕ) → found ≡ position_in is_colon word
    → found ≡ Some colon
    → (take colon word ≡ name_part word) × (take (length word - (colon + 1)) (drop (colon + 1) word) ≡ kind_part word)
parts-Some word found colon is some =
    let at = position_in-Some is_colon word colon (sym is ∙ some) in (
      ap (λ k. take k word) at.0,
      whole_rest word (colon + 1) ∙ ap (λ k. drop (k + 1) word) at.0,
    )

-- the parts where there is no colon
pub parts-None : (word : List ℕ) (found : Option ℕ) → found ≡ position_in is_colon word → found ≡ None
    → (word ≡ name_part word) × ([] ≡ kind_part word)
parts-None word found is none =
    let past = position_in-None is_colon word (sym is ∙ none) in (
      sym (take_all (position_or_len is_colon word) word past),
      sym (drop_all (position_or_len is_colon word + 1) word (omega arith)),
    )

-- a width is 1 to 64
pub width-bounds : (digits : List ℕ) → is_width digits ≡ true → (1 ≤ number_of digits) × (number_of digits ≤ 64)
width-bounds digits is =
    let parts = and_parts _ _ is in
    let bounds = and_parts _ _ parts.1 in (
      number-positive digits parts.0 (eqb-false (get_or digits 0 0) 48 (not-true _ bounds.0)),
      leb-true (number_of digits) 64 bounds.1,
    )

-- a name and the number of a width pass the test of a field
pub is_field-parts : (name digits : List ℕ) (width : ℕ) → is_name name ≡ true → is_width digits ≡ true
    → width ≡ number_of digits
    → (is_name name && (leb 1 width && leb width 64)) ≡ true
is_field-parts name digits width named digital is =
    let bounds = width-bounds digits digital in
    and_from _ _ named (and_from _ _ (le-leb 1 width (omega arith)) (le-leb width 64 (omega arith)))

-- a field has a bit
pub width-some : (f : FieldShape) → is_field f ≡ true → 1 ≤ f.width
width-some f is =
    let parts = and_parts (is_name f.name) _ is in
    leb-true 1 f.width (and_parts (leb 1 f.width) _ parts.1).0

-- what is known of the field that a word spells
pub record IsFieldOf (word : List ℕ) (f : FieldShape) : Type 0 where
  pub lawful : is_field f ≡ true
  pub named : f.name ≡ name_part word

-- what is known of the field of a name and a kind
record IsFieldFrom (name : List ℕ) (f : FieldShape) : Type 0 where
  lawful : is_field f ≡ true
  named : f.name ≡ name

-- a sign and digits behind a name
field_from-sign : (name digits : List ℕ) (sign : ℕ) (f : FieldShape) → field_from name (sign ∷ digits) ≡ Some f
    → IsFieldFrom name f
field_from-sign name digits sign f some =
    let made : FieldShape = record { name = name; width = number_of digits; signed = eqb sign 105 } in
    let test = is_name name && ((eqb sign 117 || eqb sign 105) && is_width digits) in
    elim (cases_Bool test) [
      | inl holds ↦
          let is_made : field_from name (sign ∷ digits) ≡ Some made = cond-true test _ _ holds in
          let same : made ≡ f = cc in
          let parts = and_parts _ _ holds in
          let lawful : is_field made ≡ true = is_field-parts name digits _ parts.0 (and_parts _ _ parts.1).1 refl in
          record { lawful = subst (λ g. is_field g ≡ true) same lawful; named = ap (λ g. g.name) (sym same) }
      | inr fails ↦ let none : field_from name (sign ∷ digits) ≡ None = cond-false test _ _ fails in absurd cc
    ]

field_from-Some : (name kind : List ℕ) (f : FieldShape) → field_from name kind ≡ Some f → IsFieldFrom name f
field_from-Some name [] f some = absurd cc
field_from-Some name (sign ∷ digits) f some = field_from-sign name digits sign f some

pub IsFieldOf-from_Some : (word : List ℕ) (f : FieldShape) → field_of word ≡ Some f → IsFieldOf word f
IsFieldOf-from_Some word f some =
    let facts = field_from-Some (name_part word) (kind_part word) f some in
    record { lawful = facts.lawful; named = facts.named }

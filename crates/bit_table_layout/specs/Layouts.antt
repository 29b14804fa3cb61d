-- Layouts and the lines that spell them.
use Rattle.std.specs.Prelude.{ℕ, ◌&&◌, not, nat_le, true, Bool, List, [], ◌∷◌, sum_by}
use Rattle.std.specs.Prelude.{codes, Option, Some, None, option_and_then}
use Rattle.std.specs.Prelude.{option_map, if◌then◌else◌}
use Rattle.std.specs.List.{list_any, list_all}
use Rattle.std.specs.Str.{bytes_eq}
use Rattle.bit_table_layout.specs.declared.layout.Rule.{Rule}
use Rattle.bit_table_layout.specs.declared.layout.Rule.TheVariants.{Low, High}
use Rattle.bit_table_layout.specs.declared.layout.TheConstants.{MAX_ROW_BITS}
use Rattle.bit_table_layout.specs.LineWords.{words}
use Rattle.bit_table_layout.specs.Fields.{FieldShape, is_field, field_of}

-- a layout: a digit rule and its fields in order
pub record LayoutShape : Type 0 where
  pub rule : Rule
  pub fields : List FieldShape

-- the bits of a row
abbrev pub row_width : List FieldShape → ℕ
row_width fields = sum_by (λ f. f.width) fields

-- whether one of the fields has the name
abbrev pub has_name : List ℕ → List FieldShape → Bool
has_name name fields = list_any (λ f. bytes_eq f.name name) fields

-- whether no two fields have one name
abbrev pub names_differ : List FieldShape → Bool
names_differ [] = true
names_differ (f ∷ fs) = not (has_name f.name fs) && names_differ fs

-- whether fields make a layout: each is one, their names differ, and a row has 1 to `MAX_ROW_BITS` bits
abbrev pub make_layout : List FieldShape → Bool
make_layout fields = list_all is_field fields && (names_differ fields
    && (nat_le 1 (row_width fields) && nat_le (row_width fields) MAX_ROW_BITS))

-- a layout is one by its fields
abbrev pub is_layout : LayoutShape → Bool
is_layout l = make_layout l.fields

-- the fields that words spell, where each spells one
abbrev pub fields_of : List (List ℕ) → Option (List FieldShape)
fields_of [] = Some []
fields_of (word ∷ rest) = option_and_then (λ f. option_map (λ fs. f ∷ fs) (fields_of rest)) (field_of word)

-- the digit rule that a word names
abbrev pub rule_of : List ℕ → Option Rule
rule_of word =
    if bytes_eq word (codes "low") then Some Low else (if bytes_eq word (codes "high") then Some High else None)

-- the layout of a rule and fields, where they make one
abbrev pub layout_from : Rule → List FieldShape → Option LayoutShape
layout_from rule fields = if make_layout fields then Some (record { rule = rule; fields = fields }) else None

-- the layout that words spell: the word of a rule, then one or more field words
abbrev pub layout_in : List (List ℕ) → Option LayoutShape
layout_in [] = None
layout_in (first ∷ rest) = option_and_then (λ rule. option_and_then (layout_from rule) (fields_of rest)) (rule_of first)

-- the layout that a line spells, where it spells one
unfoldable pub layout_of : List ℕ → Option LayoutShape
layout_of line = layout_in (words line)

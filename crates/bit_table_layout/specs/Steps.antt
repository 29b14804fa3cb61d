-- The words of private steps. No public clause cites this module.
use Rattle.std.specs.Prelude.{ℕ, ◌+◌, ◌*◌, ◌==◌, ◌&&◌, not, nat_le, pos, false, Bool, List, [], ◌∷◌, take}
use Rattle.std.specs.List.{list_any, list_all}
use Rattle.std.specs.Option.{option_map_or}
use Rattle.bit_table_layout.specs.declared.layout.Rule.{Rule}
use Rattle.bit_table_layout.specs.declared.layout.TheConstants.{MAX_ROW_BITS}
use Rattle.bit_table_layout.specs.Fields.{FieldShape}
use Rattle.bit_table_layout.specs.Layouts.{row_width, names_differ, fields_of}
use Rattle.bit_table_layout.specs.Rows.{field_bits}
use Rattle.bit_table_layout.specs.Images.{byte_of}

-- the number of a name: its bytes are the digits to the base 256, the first of them the lowest
abbrev pub name_number : List ℕ → ℕ
name_number [] = 0
name_number (b ∷ bs) = 256 * name_number bs + b

-- whether a number is one of the numbers
abbrev pub has_number : List ℕ → ℕ → Bool
has_number numbers number = list_any (λ n. n == number) numbers

-- whether no field has a name whose number is one of the numbers
abbrev pub are_new : List ℕ → List FieldShape → Bool
are_new numbers fields = list_all (λ f. not (has_number numbers (name_number f.name))) fields

-- whether the names of fields differ, and with so many bits before them a row has 1 to `MAX_ROW_BITS` bits
abbrev pub fields_fit : ℕ → List FieldShape → Bool
fields_fit width fields =
    names_differ fields && (nat_le 1 (width + row_width fields) && nat_le (width + row_width fields) MAX_ROW_BITS)

-- whether words spell such fields
abbrev pub words_fit : ℕ → List (List ℕ) → Bool
words_fit width ws = option_map_or (fields_fit width) (fields_of ws) false

-- whether words spell such fields, and none has a name whose number is one of the numbers
abbrev pub new_words_fit : List ℕ → ℕ → List (List ℕ) → Bool
new_words_fit numbers width ws =
    option_map_or (λ fields. are_new numbers fields && fields_fit width fields) (fields_of ws) false

-- whether a byte is what its first so many bits make, so that the others are zero
abbrev pub is_cut : Rule → ℕ → ℕ → Bool
is_cut rule used byte = byte_of rule (take used (field_bits rule 8 (pos byte))) == byte

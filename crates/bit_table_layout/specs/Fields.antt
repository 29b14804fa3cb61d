-- Fields: their words, and the numbers that they take.
use Rattle.std.specs.Prelude.{ℕ, ◌-◌, ◌^◌, ◌==◌, ◌&&◌, ◌||◌, not, nat_le, ℤ, pos, neg_ℤ, int_le, int_lt, Bool, List, []}
use Rattle.std.specs.Prelude.{◌∷◌, length, slice_index, Option, Some, None, if◌then◌else◌}
use Rattle.std.specs.List.{list_all, before_first, after_first}
use Rattle.std.specs.Char.{is_ascii_digit, is_ascii_lowercase}
use Rattle.bit_table_layout.specs.Numerals.{is_number, number_of}

-- a field: its name, its width in bits, and whether its numbers have a sign
pub record FieldShape : Type 0 where
  pub name : List ℕ
  pub width : ℕ
  pub signed : Bool

-- whether a name may have the byte b behind its first: `a` to `z`, `0` to `9` or `_`
abbrev pub is_name_byte : ℕ → Bool
is_name_byte b = is_ascii_lowercase b || (is_ascii_digit b || b == 95)

-- whether a word is a name: 1 to 16 bytes, a letter `a` to `z` followed by `a` to `z`, `0` to `9` or `_`
abbrev pub is_name : List ℕ → Bool
is_name word = nat_le 1 (length word) && (nat_le (length word) 16
    && (is_ascii_lowercase (slice_index word 0) && list_all is_name_byte word))

-- whether digits spell a width: 1 to 64 in decimal without a leading zero
abbrev pub is_width : List ℕ → Bool
is_width digits = is_number digits && (not (slice_index digits 0 == 48) && nat_le (number_of digits) 64)

-- the part of a field word before its first colon
abbrev pub name_part : List ℕ → List ℕ
name_part word = before_first (λ b. b == 58) word

-- the part of a field word behind its first colon
abbrev pub kind_part : List ℕ → List ℕ
kind_part word = after_first (λ b. b == 58) word

-- the field of a name and a kind: `u` for numbers without a sign or `i` for those with one, and the width
abbrev pub field_from : List ℕ → List ℕ → Option FieldShape
field_from name [] = None
field_from name (kind ∷ digits) =
    if is_name name && ((kind == 117 || kind == 105) && is_width digits)
    then Some (record { name = name; width = number_of digits; signed = kind == 105 }) else None

-- the field that a word spells as `name:uN` or `name:iN`, where it spells one
abbrev pub field_of : List ℕ → Option FieldShape
field_of word = field_from (name_part word) (kind_part word)

-- whether a field has a name and a width of 1 to 64
abbrev pub is_field : FieldShape → Bool
is_field f = is_name f.name && (nat_le 1 f.width && nat_le f.width 64)

-- the least number that a field takes: 0 for `uN`, - 2 ^ (N - 1) for `iN`
abbrev pub least : FieldShape → ℤ
least f = if f.signed then neg_ℤ (pos (2 ^ (f.width - 1))) else pos 0

-- the first number past the greatest that a field takes: 2 ^ N for `uN`, 2 ^ (N - 1) for `iN`
abbrev pub limit : FieldShape → ℤ
limit f = if f.signed then pos (2 ^ (f.width - 1)) else pos (2 ^ f.width)

-- whether a field takes the number v
abbrev pub takes : FieldShape → ℤ → Bool
takes f v = int_le (least f) v && int_lt v (limit f)

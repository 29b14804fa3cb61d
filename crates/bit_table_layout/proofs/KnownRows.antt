-- Known rows of the definitions, computed: a wrong rule among them does not check.
use Rattle.std.proofs.Common.{◌≡◌, ℕ, true, false, List, [], ◌∷◌, Some, None, pos, negsuc, codes, refl}
use Rattle.std.specs.Fmt.{digits}
use Rattle.std.specs.Option.{option_map}
use Rattle.hex.proofs.OnLiterals.{hex_on_literals}
use Rattle.bit_table_layout.specs.declared.cause.Cause.TheVariants.{Form, Layout}
use Rattle.bit_table_layout.specs.declared.layout.Rule.TheVariants.{Low, High}
use Rattle.bit_table_layout.specs.CauseWords.{refusal_text}
use Rattle.bit_table_layout.specs.Digits.{digit}
use Rattle.bit_table_layout.specs.LineWords.{words}
use Rattle.bit_table_layout.specs.Numerals.{number_in, whole_number_in}
use Rattle.bit_table_layout.specs.Fields.{FieldShape, takes}
use Rattle.bit_table_layout.specs.Layouts.{LayoutShape, row_width, layout_of}
use Rattle.bit_table_layout.specs.Rows.{row_bits, new_row}
use Rattle.bit_table_layout.specs.Images.{image_bytes, image_line}
use Rattle.bit_table_layout.specs.Loads.{rows_in_bytes, is_image}

-- `name:uN`
abbrev unsigned : List ℕ → ℕ → FieldShape
unsigned name width = record { name = name; width = width; signed = false }

-- `name:iN`
abbrev signed_field : List ℕ → ℕ → FieldShape
signed_field name width = record { name = name; width = width; signed = true }

-- `low a:u3 b:u5`, `low a:u3 b:i4`, and the same under `high`
abbrev low_u3_u5 : LayoutShape
low_u3_u5 = record { rule = Low; fields = unsigned (codes "a") 3 ∷ unsigned (codes "b") 5 ∷ [] }

abbrev high_u3_u5 : LayoutShape
high_u3_u5 = record { rule = High; fields = unsigned (codes "a") 3 ∷ unsigned (codes "b") 5 ∷ [] }

abbrev low_u3_i4 : LayoutShape
low_u3_i4 = record { rule = Low; fields = unsigned (codes "a") 3 ∷ signed_field (codes "b") 4 ∷ [] }

abbrev high_u3_i4 : LayoutShape
high_u3_i4 = record { rule = High; fields = unsigned (codes "a") 3 ∷ signed_field (codes "b") 4 ∷ [] }

-- words stand apart by spaces, tabs and carriage returns, also several, and also at both ends; a line feed parts none
words-parted : words (codes " low\ta:u3  b:u5\r") ≡ codes "low" ∷ codes "a:u3" ∷ codes "b:u5" ∷ []
words-parted = refl

words-none : words (codes " \t\r") ≡ []
words-none = refl

words-line_feed : words (codes "low\na:u3") ≡ codes "low\na:u3" ∷ []
words-line_feed = refl

-- numbers in decimal, taken by value
number-zeros : number_in (codes "007") ≡ Some 7
number-zeros = refl

number-sign : number_in (codes "-7") ≡ None
number-sign = refl

number-none : number_in [] ≡ None
number-none = refl

whole-minus : whole_number_in (codes "-7") ≡ Some (negsuc 6)
whole-minus = refl

whole-minus_zero : whole_number_in (codes "-0") ≡ Some (pos 0)
whole-minus_zero = refl

whole-plus : whole_number_in (codes "+7") ≡ None
whole-plus = refl

-- layout lines
layout-two : layout_of (codes "low a:u3 b:u5") ≡ Some low_u3_u5
unfolding layout_of
layout-two = refl

layout-signed : layout_of (codes "low a:u3 b:i4") ≡ Some low_u3_i4
unfolding layout_of
layout-signed = refl

layout-longest : layout_of (codes "low a234567890_23456:i64")
    ≡ Some (record { rule = Low; fields = signed_field (codes "a234567890_23456") 64 ∷ [] })
unfolding layout_of
layout-longest = refl

-- lines that are none: no field, 65 bits, a name twice, a leading zero, a rule that is no word yet, no bit
no_layout-alone : layout_of (codes "low") ≡ None
unfolding layout_of
no_layout-alone = refl

no_layout-wide : layout_of (codes "low a:u65") ≡ None
unfolding layout_of
no_layout-wide = refl

no_layout-twice : layout_of (codes "low a:u1 a:u1") ≡ None
unfolding layout_of
no_layout-twice = refl

no_layout-leading_zero : layout_of (codes "low a:u01") ≡ None
unfolding layout_of
no_layout-leading_zero = refl

layout-high : layout_of (codes "high a:u3 b:i4") ≡ Some high_u3_i4
unfolding layout_of
layout-high = refl

no_layout-high_alone : layout_of (codes "high") ≡ None
unfolding layout_of
no_layout-high_alone = refl

no_layout-both : layout_of (codes "high low a:u3") ≡ None
unfolding layout_of
no_layout-both = refl

no_layout-no_bit : layout_of (codes "low a:u0") ≡ None
unfolding layout_of
no_layout-no_bit = refl

-- a capital, an unknown kind, 17 bytes, a digit first, no name, no width, no colon, 1,025 bits, two rules, an empty line
no_layout-capital : layout_of (codes "low A:u1") ≡ None
unfolding layout_of
no_layout-capital = refl

no_layout-kind : layout_of (codes "low a:x1") ≡ None
unfolding layout_of
no_layout-kind = refl

no_layout-long_name : layout_of (codes "low a2345678901234567:u1") ≡ None
unfolding layout_of
no_layout-long_name = refl

no_layout-digit_first : layout_of (codes "low 1a:u1") ≡ None
unfolding layout_of
no_layout-digit_first = refl

no_layout-no_name : layout_of (codes "low :u1") ≡ None
unfolding layout_of
no_layout-no_name = refl

no_layout-no_width : layout_of (codes "low a:u") ≡ None
unfolding layout_of
no_layout-no_width = refl

no_layout-no_colon : layout_of (codes "low a") ≡ None
unfolding layout_of
no_layout-no_colon = refl

no_layout-second_rule : layout_of (codes "low low a:u1") ≡ None
unfolding layout_of
no_layout-second_rule = refl

no_layout-empty : layout_of (codes "") ≡ None
unfolding layout_of
no_layout-empty = refl

no_layout-1025_bits : layout_of
    (codes "low a:u64 b:u64 c:u64 d:u64 e:u64 f:u64 g:u64 h:u64 i:u64 j:u64 k:u64 l:u64 m:u64 n:u64 o:u64 p:u64 q:u1")
    ≡ None
unfolding layout_of
no_layout-1025_bits = refl

-- 257 bits are few enough
layout-257_bits : option_map (λ l. row_width l.fields) (layout_of (codes "low a:u64 b:u64 c:u64 d:u64 e:u1")) ≡ Some 257
unfolding layout_of
layout-257_bits = refl

layout-1024_bits : option_map (λ l. row_width l.fields)
    (layout_of (codes "low a:u64 b:u64 c:u64 d:u64 e:u64 f:u64 g:u64 h:u64 i:u64 j:u64 k:u64 l:u64 m:u64 n:u64 o:u64 p:u64"))
    ≡ Some 1024
unfolding layout_of
layout-1024_bits = refl

-- digits: -1 has ones throughout, -8 is ..11000, 5 is 101
digit-minus_1 : digit (negsuc 0) 3 ≡ 1
digit-minus_1 = refl

digit-minus_8 : digit (negsuc 7) 2 ≡ 0
digit-minus_8 = refl

digit-minus_8_at_3 : digit (negsuc 7) 3 ≡ 1
digit-minus_8_at_3 = refl

digit-5 : digit (pos 5) 1 ≡ 0
digit-5 = refl

-- `i4` takes -8 to 7, and `u3` takes 0 to 7
takes-i4-least : takes (signed_field (codes "a") 4) (negsuc 7) ≡ true
takes-i4-least = refl

takes-i4-greatest : takes (signed_field (codes "a") 4) (pos 7) ≡ true
takes-i4-greatest = refl

takes-i4-below : takes (signed_field (codes "a") 4) (negsuc 8) ≡ false
takes-i4-below = refl

takes-i4-above : takes (signed_field (codes "a") 4) (pos 8) ≡ false
takes-i4-above = refl

takes-u3-greatest : takes (unsigned (codes "a") 3) (pos 7) ≡ true
takes-u3-greatest = refl

takes-u3-above : takes (unsigned (codes "a") 3) (pos 8) ≡ false
takes-u3-above = refl

takes-u3-below : takes (unsigned (codes "a") 3) (negsuc 0) ≡ false
takes-u3-below = refl

-- the bits of a row: 5 and -1, then 2 and 3
row-low : row_bits low_u3_i4 (new_row (pos 5 ∷ negsuc 0 ∷ []))
    ≡ true ∷ false ∷ true ∷ true ∷ true ∷ true ∷ true ∷ []
row-low = refl

row-high : row_bits high_u3_i4 (new_row (pos 5 ∷ negsuc 0 ∷ []))
    ≡ true ∷ false ∷ true ∷ true ∷ true ∷ true ∷ true ∷ []
row-high = refl

row-low_2_3 : row_bits low_u3_i4 (new_row (pos 2 ∷ pos 3 ∷ []))
    ≡ false ∷ true ∷ false ∷ true ∷ true ∷ false ∷ false ∷ []
row-low_2_3 = refl

row-high_2_3 : row_bits high_u3_i4 (new_row (pos 2 ∷ pos 3 ∷ []))
    ≡ false ∷ true ∷ false ∷ false ∷ false ∷ true ∷ true ∷ []
row-high_2_3 = refl

-- the image bytes 8d, b1, 7d 0d and be 8c
bytes-low : image_bytes low_u3_u5 (new_row (pos 5 ∷ pos 17 ∷ []) ∷ []) ≡ 141 ∷ []
bytes-low = refl

bytes-high : image_bytes high_u3_u5 (new_row (pos 5 ∷ pos 17 ∷ []) ∷ []) ≡ 177 ∷ []
bytes-high = refl

bytes-low_rows : image_bytes low_u3_i4 (new_row (pos 5 ∷ negsuc 0 ∷ []) ∷ new_row (pos 2 ∷ pos 3 ∷ []) ∷ [])
    ≡ 125 ∷ 13 ∷ []
bytes-low_rows = refl

bytes-high_rows : image_bytes high_u3_i4 (new_row (pos 5 ∷ negsuc 0 ∷ []) ∷ new_row (pos 2 ∷ pos 3 ∷ []) ∷ [])
    ≡ 190 ∷ 140 ∷ []
bytes-high_rows = refl

bytes-none : image_bytes low_u3_u5 [] ≡ []
bytes-none = refl

-- image lines
line-rows : image_line 2 (125 ∷ 13 ∷ []) ≡ codes "2 7d0d"
unfolding hex_on_literals digits
line-rows = refl

line-none : image_line 0 [] ≡ codes "0"
unfolding hex_on_literals digits
line-none = refl

-- the bytes be 8c are an image of two rows, and of no other count; 8d has a one past them, 2 bytes more are too many
image-high : is_image high_u3_i4 2 (190 ∷ 140 ∷ []) ≡ true
image-high = refl

image-low : is_image low_u3_i4 2 (125 ∷ 13 ∷ []) ≡ true
image-low = refl

no_image-rest : is_image high_u3_i4 2 (190 ∷ 141 ∷ []) ≡ false
no_image-rest = refl

no_image-low_rest : is_image low_u3_i4 2 (125 ∷ 77 ∷ []) ≡ false
no_image-low_rest = refl

no_image-more_rows : is_image high_u3_i4 3 (190 ∷ 140 ∷ []) ≡ false
no_image-more_rows = refl

no_image-no_byte : is_image high_u3_i4 2 [] ≡ false
no_image-no_byte = refl

no_image-no_row : is_image high_u3_i4 0 (0 ∷ []) ≡ false
no_image-no_row = refl

image-no_row : is_image high_u3_i4 0 [] ≡ true
image-no_row = refl

rows-high : rows_in_bytes high_u3_i4 2 (190 ∷ 140 ∷ [])
    ≡ new_row (pos 5 ∷ negsuc 0 ∷ []) ∷ new_row (pos 2 ∷ pos 3 ∷ []) ∷ []
rows-high = refl

rows-low : rows_in_bytes low_u3_i4 2 (125 ∷ 13 ∷ [])
    ≡ new_row (pos 5 ∷ negsuc 0 ∷ []) ∷ new_row (pos 2 ∷ pos 3 ∷ []) ∷ []
rows-low = refl

-- ---- refusals

refusal-form : refusal_text Form ≡ codes "refused form\n"
refusal-form = refl

refusal-layout : refusal_text Layout ≡ codes "refused layout\n"
refusal-layout = refl

-- The bytes of bits, and the numbers that an image tells.
use Rattle.std.proofs.Common.{◌≡◌, ◌≢◌, inl, inr, ℕ, zero, suc, ◌+◌, ◌-◌, ◌*◌, ◌/◌, ◌%◌, ◌^◌, ◌<◌}
use Rattle.std.proofs.Common.{◌≤◌, min, ltb, Bool, true, false, cond, List, []}
use Rattle.std.proofs.Common.{◌∷◌, ◌++◌, length, get_or, take, drop, reverse}
use Rattle.std.proofs.Common.{replicate, refl, sym, ap, ap₂, ◌∙◌, arith, length-append}
use Rattle.std.proofs.Common.{length-take, length-drop, get_or-take, get_or-drop}
use Rattle.std.proofs.Common.{ext_get_or, pow_mono, mul-le-mul_left, add-mul}
use Rattle.std.specs.Prelude.{◌==◌, decimal}
use Rattle.std.specs.List.{flat_map}
use Rattle.std.specs.Fmt.{digits as digits_in_base, digits_onto, digit_glyph}
use Rattle.std.proofs.lemmas.Bool.{cases_lt, cases_eq, cases_order, cond-true, cond-false}
use Rattle.std.proofs.lemmas.Bool.{cond_both, eq-eqb, ne_eqb, lt-ltb}
use Rattle.std.proofs.lemmas.List.{append_cancel_left, reverse-reverse, length-reverse, length-replicate}
use Rattle.std.proofs.lemmas.List.{length-map, get_or_past, same_from_push}
use Rattle.std.proofs.lemmas.List.{append_assoc, nil_from_length}
use Rattle.std.proofs.lemmas.List.FromFn.{length-map-range_with_len, get_or-map-range_with_len}
use Rattle.hex.specs.Hex.{encode_lower, decode_of, IsBytes}
use Rattle.hex.proofs.HexLemmas.{decode_of-encode_lower, decode_of-same}
use Rattle.bit_table_layout.specs.declared.layout.Rule.{Rule}
use Rattle.bit_table_layout.specs.declared.layout.Rule.TheVariants.{Low, High}
use Rattle.bit_table_layout.specs.Layouts.{LayoutShape, is_layout, row_width}
use Rattle.bit_table_layout.specs.Rows.{Row, are_rows, row_bits, numbers_bits, table_bits, all_numbers}
use Rattle.bit_table_layout.specs.Readings.{rows_from}
use Rattle.bit_table_layout.specs.Images.{byte_of, bytes_of, image_bytes, image_line, line_of_rows}
use Rattle.bit_table_layout.specs.Images.{HasOnlyNumbers, ImagesTellNumbers}
use Rattle.bit_table_layout.proofs.DigitLemmas.{binary-lt, binary-same}
use Rattle.bit_table_layout.proofs.RowLemmas.{some_row_bits, length-table_bits, rows_from-table_bits}

-- ---- the byte of up to eight bits

length-padded : (eight : List Bool) → length eight ≤ 8
    → length (replicate (8 - length eight) false ++ reverse eight) ≡ 8
length-padded eight h =
    length-append (replicate (8 - length eight) false) (reverse eight)
    ∙ ap₂ (λ a b. a + b) (length-replicate (8 - length eight) false) (length-reverse eight) ∙ omega arith

pub byte_of-lt : (rule : Rule) (eight : List Bool) → length eight ≤ 8 → byte_of rule eight < 256
byte_of-lt Low eight h =
    let below = binary-lt eight in
    let most : 2 ^ length eight ≤ 2 ^ 8 = pow_mono h in
    omega arith
byte_of-lt High eight h =
    let all = replicate (8 - length eight) false ++ reverse eight in
    let below = binary-lt all in
    let size : 2 ^ length all ≡ 2 ^ 8 = ap (λ n. 2 ^ n) (length-padded eight h) in
    omega arith

pub byte_of-injective : (rule : Rule) (xs ys : List Bool) → length xs ≤ 8 → length xs ≡ length ys
    → byte_of rule xs ≡ byte_of rule ys → xs ≡ ys
byte_of-injective Low xs ys h e same = binary-same xs ys e same
byte_of-injective High xs ys h e same =
    let lengths = length-padded xs h ∙ sym (length-padded ys (omega arith)) in
    let whole_x = replicate (8 - length xs) false ++ reverse xs in
    let whole_y = replicate (8 - length ys) false ++ reverse ys in
    let lists = binary-same whole_x whole_y lengths same in
    let aligned = lists ∙ ap (λ n. replicate (8 - n) false ++ reverse ys) (sym e) in
    let turned = append_cancel_left (replicate (8 - length xs) false) (reverse xs) (reverse ys) aligned in
    sym (reverse-reverse xs) ∙ ap reverse turned ∙ reverse-reverse ys

-- ---- the bytes of bits

pub length-bytes_of : (rule : Rule) (bits : List Bool) → length (bytes_of rule bits) ≡ (length bits + 7) / 8
length-bytes_of rule bits =
    length-map-range_with_len (λ k. byte_of rule (take 8 (drop (8 * k) bits))) 0 ((length bits + 7) / 8)

pub get_or-bytes_of : (rule : Rule) (bits : List Bool) (k d : ℕ) → k < (length bits + 7) / 8
    → get_or (bytes_of rule bits) k d ≡ byte_of rule (take 8 (drop (8 * k) bits))
get_or-bytes_of rule bits k d h =
    let byte = λ (k : ℕ). byte_of rule (take 8 (drop (8 * k) bits)) in
    get_or-map-range_with_len byte 0 ((length bits + 7) / 8) k k d h (omega arith)

length-chunk : (bits : List Bool) (k : ℕ) → length (take 8 (drop k bits)) ≤ 8
length-chunk bits k = omega (arith, length-take 8 (drop k bits))

pub IsBytes-bytes_of : (rule : Rule) (bits : List Bool) → IsBytes (bytes_of rule bits)
IsBytes-bytes_of rule bits k =
    elim (cases_lt k ((length bits + 7) / 8)) [
      | inl h ↦
          let is = get_or-bytes_of rule bits k 0 h in
          let small = byte_of-lt rule (take 8 (drop (8 * k) bits)) (length-chunk bits (8 * k)) in
          omega arith
      | inr h ↦
          let past : length (bytes_of rule bits) ≤ k = omega (arith, length-bytes_of rule bits) in
          let is = get_or_past (bytes_of rule bits) k 0 past in
          omega arith
    ]

-- a bit is in the chunk of its byte
pub bit_in_chunk : (bits : List Bool) (i : ℕ)
    → get_or (take 8 (drop (8 * (i / 8)) bits)) (i % 8) false ≡ get_or bits i false
bit_in_chunk bits i =
    let whole : 8 * (i / 8) + i % 8 ≡ i = omega arith in
    get_or-take 8 (drop (8 * (i / 8)) bits) (i % 8) false (omega arith)
    ∙ get_or-drop (8 * (i / 8)) bits (i % 8) false ∙ ap (λ j. get_or bits j false) whole

pub bytes_of-injective : (rule : Rule) (xs ys : List Bool) → length xs ≡ length ys
    → bytes_of rule xs ≡ bytes_of rule ys → xs ≡ ys
bytes_of-injective rule xs ys e same =
    ext_get_or false xs ys e (λ i h.
    let k = i / 8 in
    let chunk_x = take 8 (drop (8 * k) xs) in
    let chunk_y = take 8 (drop (8 * k) ys) in
    let inside : k < (length xs + 7) / 8 = omega arith in
    let inside_y : k < (length ys + 7) / 8 = omega arith in
    let lengths : length chunk_x ≡ length chunk_y =
    length-take 8 (drop (8 * k) xs)
    ∙ ap (λ n. min 8 n) (length-drop (8 * k) xs ∙ ap (λ n. n - 8 * k) e ∙ sym (length-drop (8 * k) ys))
    ∙ sym (length-take 8 (drop (8 * k) ys)) in
    let bytes : byte_of rule chunk_x ≡ byte_of rule chunk_y =
    sym (get_or-bytes_of rule xs k 0 inside) ∙ ap (λ bs. get_or bs k 0) same
    ∙ get_or-bytes_of rule ys k 0 inside_y in
    let chunks = byte_of-injective rule chunk_x chunk_y (length-chunk xs (8 * k)) lengths bytes in
    sym (bit_in_chunk xs i) ∙ ap (λ bits. get_or bits (i % 8) false) chunks ∙ bit_in_chunk ys i)

-- ---- an image and its numbers

same_numbers : (l : LayoutShape) (rows others : List Row) → is_layout l ≡ true → are_rows l rows ≡ true
    → are_rows l others ≡ true → length rows ≡ length others → image_bytes l rows ≡ image_bytes l others
    → all_numbers rows ≡ all_numbers others
same_numbers l rows others lawful h k e same =
    let w = row_width l.fields in
    let lengths : length (table_bits l rows) ≡ length (table_bits l others) =
    length-table_bits l rows h ∙ ap (λ n. n * w) e ∙ sym (length-table_bits l others k) in
    let bits = bytes_of-injective l.rule (table_bits l rows) (table_bits l others) lengths same in
    sym (rows_from-table_bits l rows lawful h) ∙ ap₂ (λ n bs. all_numbers (rows_from l n bs)) e bits
    ∙ rows_from-table_bits l others lawful k

pub has_only_numbers : (l : LayoutShape) (rows : List Row) → is_layout l ≡ true → are_rows l rows ≡ true
    → HasOnlyNumbers l (length rows) (image_bytes l rows) rows
has_only_numbers l rows lawful h = λ others k e same. same_numbers l others rows lawful k h e same

table_bits-all_numbers : (l : LayoutShape) (rows : List Row)
    → table_bits l rows ≡ flat_map (numbers_bits l.rule l.fields) (all_numbers rows)
table_bits-all_numbers l [] = refl
table_bits-all_numbers l (row ∷ rows) = ap (λ bs. row_bits l row ++ bs) (table_bits-all_numbers l rows)

-- the same numbers have the same line
same_line : (l : LayoutShape) (rows others : List Row) → all_numbers rows ≡ all_numbers others
    → line_of_rows l rows ≡ line_of_rows l others
same_line l rows others e =
    let count : length rows ≡ length others =
    sym (length-map rows (λ row. row.numbers)) ∙ ap length e ∙ length-map others (λ row. row.numbers) in
    let bits =
    table_bits-all_numbers l rows ∙ ap (flat_map (numbers_bits l.rule l.fields)) e
    ∙ sym (table_bits-all_numbers l others) in
    ap₂ (λ n bs. image_line n (bytes_of l.rule bs)) count bits

-- ---- the parts of an image line

-- no byte of the list is a space
abbrev Spaceless : List ℕ → Type 0
Spaceless xs = (i : ℕ) → get_or xs i 0 ≢ 32

Spaceless-cons : (x : ℕ) (xs : List ℕ) → x ≢ 32 → Spaceless xs → Spaceless (x ∷ xs)
Spaceless-cons x xs h k = λ i. by i
  where
    by : (i : ℕ) → get_or (x ∷ xs) i 0 ≢ 32
    by zero = h
    by (suc i) = k i

glyph : (d : ℕ) → d < 10 → digit_glyph false d ≡ 48 + d
glyph d h = cond-true (ltb d 10) (48 + d) (87 + d) (lt-ltb d 10 h)

Spaceless-digits_onto : (k n : ℕ) (acc : List ℕ) → Spaceless acc → Spaceless (digits_onto k 10 false n acc)
Spaceless-digits_onto zero n acc h = h
Spaceless-digits_onto (suc k) n acc h =
    let d = digit_glyph false (n % 10) in
    let is = glyph (n % 10) (omega arith) in
    let here : Spaceless (d ∷ acc) = Spaceless-cons d acc (omega arith) h in
    cond_both (n / 10 == 0) (d ∷ acc) (digits_onto k 10 false (n / 10) (d ∷ acc)) Spaceless
    (λ e. here) (λ e. Spaceless-digits_onto k (n / 10) (d ∷ acc) here)

front_of : (k n : ℕ) (acc : List ℕ) → (front : List ℕ) × (digits_onto k 10 false n acc ≡ front ++ acc)
front_of zero n acc = ([], refl)
front_of (suc k) n acc =
    let d = digit_glyph false (n % 10) in
    let rest = front_of k (n / 10) (d ∷ acc) in
    cond_both (n / 10 == 0) (d ∷ acc) (digits_onto k 10 false (n / 10) (d ∷ acc))
    (λ ds. (front : List ℕ) × (ds ≡ front ++ acc))
    (λ e. (d ∷ [], refl))
    (λ e. (rest.0 ++ d ∷ [], rest.1 ∙ sym (append_assoc rest.0 (d ∷ []) acc)))

decimal_is : (n : ℕ) → decimal n ≡ digits_onto 64 10 false n []
unfolding digits_in_base
decimal_is n = refl

Spaceless-decimal : (n : ℕ) → Spaceless (decimal n)
Spaceless-decimal n =
    let none : Spaceless [] = λ i e. absurd (omega arith) in
    rw (decimal_is n) (Spaceless-digits_onto 64 n [] none)

-- the last digit of a decimal
last_digit : (n : ℕ) → (front : List ℕ) × (decimal n ≡ front ++ (48 + n % 10) ∷ [])
last_digit n =
    let d = digit_glyph false (n % 10) in
    let is = glyph (n % 10) (omega arith) in
    let rest = front_of 63 (n / 10) (d ∷ []) in
    let last : (front : List ℕ) × (digits_onto 64 10 false n [] ≡ front ++ d ∷ []) =
    cond_both (n / 10 == 0) (d ∷ []) (digits_onto 63 10 false (n / 10) (d ∷ []))
    (λ ds. (front : List ℕ) × (ds ≡ front ++ d ∷ []))
    (λ e. ([], refl)) (λ e. rest) in
    (last.0, decimal_is n ∙ last.1 ∙ ap (λ x. last.0 ++ x ∷ []) is)

same_last : (m n : ℕ) → decimal m ≡ decimal n → m % 10 ≡ n % 10
same_last m n e =
    let a = last_digit m in
    let b = last_digit n in
    let both = same_from_push a.0 b.0 (48 + m % 10) (48 + n % 10) (sym a.1 ∙ e ∙ b.1) in
    omega arith

-- two lists without a space, each with nothing behind it or a space and more
split_at_space : (xs ys : List ℕ) (a b : Bool) (s t : List ℕ) → Spaceless xs → Spaceless ys
    → xs ++ cond a [] (32 ∷ s) ≡ ys ++ cond b [] (32 ∷ t) → (xs ≡ ys) × (cond a [] (32 ∷ s) ≡ cond b [] (32 ∷ t))
split_at_space [] [] a b s t h k e = (refl, e)
split_at_space [] (y ∷ ys) true b s t h k e = cc
split_at_space [] (y ∷ ys) false b s t h k e = let space : y ≡ 32 = cc in absurd (k 0 space)
split_at_space (x ∷ xs) [] a true s t h k e = cc
split_at_space (x ∷ xs) [] a false s t h k e = let space : x ≡ 32 = cc in absurd (h 0 space)
split_at_space (x ∷ xs) (y ∷ ys) a b s t h k e =
    let first : x ≡ y = cc in
    let others : xs ++ cond a [] (32 ∷ s) ≡ ys ++ cond b [] (32 ∷ t) = cc in
    let rest = split_at_space xs ys a b s t (λ i. h (suc i)) (λ i. k (suc i)) others in
    (ap₂ (λ z zs. z ∷ zs) first rest.0, rest.1)

-- ---- equal image lines

-- so many rows of w bits and d more have another number of bytes, unless d is below 8
few_more : (w m d : ℕ) → 1 ≤ w → (m * w + 7) / 8 ≡ ((m + d) * w + 7) / 8 → d < 8
few_more w m d some e =
    let sum : (m + d) * w ≡ m * w + d * w = add-mul m d w in
    let most : d * 1 ≤ d * w = mul-le-mul_left d some in
    omega arith

same_count : (w m n : ℕ) → 1 ≤ w → (m * w + 7) / 8 ≡ (n * w + 7) / 8 → m % 10 ≡ n % 10 → m ≡ n
same_count w m n some e last =
    elim (cases_order m n) [
      | inl same ↦ same
      | inr (inl less) ↦
          let more : n ≡ m + (n - m) = omega arith in
          let few : n - m < 8 = few_more w m (n - m) some (e ∙ ap (λ k. (k * w + 7) / 8) more) in
          omega arith
      | inr (inr above) ↦
          let more : m ≡ n + (m - n) = omega arith in
          let few : m - n < 8 = few_more w n (m - n) some (sym e ∙ ap (λ k. (k * w + 7) / 8) more) in
          omega arith
    ]

hex_same : (xs ys : List ℕ) → IsBytes xs → IsBytes ys → encode_lower xs ≡ encode_lower ys → xs ≡ ys
hex_same xs ys h k e =
    decode_of-same (encode_lower xs) xs ys (decode_of-encode_lower xs h)
    (ap decode_of e ∙ decode_of-encode_lower ys k)

-- the number of image bytes of so many rows
pub length-image_bytes : (l : LayoutShape) (rows : List Row) → are_rows l rows ≡ true
    → length (image_bytes l rows) ≡ (length rows * row_width l.fields + 7) / 8
length-image_bytes l rows h =
    length-bytes_of l.rule (table_bits l rows) ∙ ap (λ n. (n + 7) / 8) (length-table_bits l rows h)

told : (l : LayoutShape) (rows others : List Row) → is_layout l ≡ true → are_rows l rows ≡ true
    → are_rows l others ≡ true → line_of_rows l rows ≡ line_of_rows l others → all_numbers rows ≡ all_numbers others
told l rows others lawful h k e =
    let m = length rows in
    let n = length others in
    let xs = image_bytes l rows in
    let ys = image_bytes l others in
    let parts = split_at_space (decimal m) (decimal n) (m == 0) (n == 0) (encode_lower xs) (encode_lower ys)
    (Spaceless-decimal m) (Spaceless-decimal n) e in
    let last = same_last m n parts.0 in
    elim (cases_eq m 0) [
      | inl none ↦ elim (cases_eq n 0) [
        | inl none_y ↦ ap all_numbers (nil_from_length rows none ∙ sym (nil_from_length others none_y))
        | inr some_y ↦
            let never : [] ≡ 32 ∷ encode_lower ys =
            sym (cond-true (m == 0) [] (32 ∷ encode_lower xs) (eq-eqb m 0 none)) ∙ parts.1
            ∙ cond-false (n == 0) [] (32 ∷ encode_lower ys) (ne_eqb n 0 some_y) in
            cc never
      ]
      | inr some ↦ elim (cases_eq n 0) [
        | inl none_y ↦
            let never : 32 ∷ encode_lower xs ≡ [] =
            sym (cond-false (m == 0) [] (32 ∷ encode_lower xs) (ne_eqb m 0 some)) ∙ parts.1
            ∙ cond-true (n == 0) [] (32 ∷ encode_lower ys) (eq-eqb n 0 none_y) in
            cc never
        | inr some_y ↦
            let hex : 32 ∷ encode_lower xs ≡ 32 ∷ encode_lower ys =
            sym (cond-false (m == 0) [] (32 ∷ encode_lower xs) (ne_eqb m 0 some)) ∙ parts.1
            ∙ cond-false (n == 0) [] (32 ∷ encode_lower ys) (ne_eqb n 0 some_y) in
            let bytes : xs ≡ ys =
            hex_same xs ys (IsBytes-bytes_of l.rule (table_bits l rows))
            (IsBytes-bytes_of l.rule (table_bits l others)) (cc hex) in
            let lengths = sym (length-image_bytes l rows h) ∙ ap length bytes ∙ length-image_bytes l others k in
            let count = same_count (row_width l.fields) m n (some_row_bits l lawful) lengths last in
            same_numbers l rows others lawful h k count bytes
      ]
    ]

pub images_tell_numbers : ImagesTellNumbers
images_tell_numbers = λ l lawful rows others h k. (told l rows others lawful h k, same_line l rows others)

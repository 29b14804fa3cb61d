-- Bytes, the bits in them, and the rows that they hold.
use Rattle.std.proofs.Common.{◌≡◌, ◌≢◌, inl, inr, ℕ, zero, suc, ◌+◌, ◌-◌, ◌*◌, ◌/◌, ◌%◌, ◌^◌, ◌<◌, ◌≤◌, min}
use Rattle.std.proofs.Common.{Bool, true, false, List, [], ◌∷◌, ◌++◌, length, get_or, take, drop, reverse}
use Rattle.std.proofs.Common.{replicate, pos, subst, refl, sym, ap, ap₂, ◌∙◌, arith, length-append, length-take}
use Rattle.std.proofs.Common.{length-drop, length-take-le, take_at, take-append-drop, ext_get_or}
use Rattle.std.specs.Bool.{Decides}
use Rattle.std.specs.Prelude.{◌==◌}
use Rattle.std.proofs.Math.Nat.{div-eq_of_lt, mul_comm}
use Rattle.std.proofs.Math.Seq.{drop-append-add}
use Rattle.std.proofs.lemmas.Bool.{cases_lt, eqb-true, eq-eqb}
use Rattle.std.proofs.lemmas.Bool.Decides.{same_from_decides, Decides-eqb}
use Rattle.std.proofs.lemmas.Nat.{le-div, mod-mul-add, pow_pos}
use Rattle.std.proofs.lemmas.List.{reverse-append, reverse-reverse, length-reverse, take-take, drop-take, take_all}
use Rattle.std.proofs.lemmas.List.FromFn.{take-map-range_with_len, length-map-range_with_len}
use Rattle.std.proofs.lemmas.Slice.Eq.{bytes_eq-Decides}
use Rattle.hex.specs.Hex.{IsBytes}
use Rattle.bit_table_layout.specs.declared.layout.Rule.{Rule}
use Rattle.bit_table_layout.specs.declared.layout.Rule.TheVariants.{Low, High}
use Rattle.bit_table_layout.specs.Digits.{has_digit, binary}
use Rattle.bit_table_layout.specs.Layouts.{LayoutShape, is_layout, row_width}
use Rattle.bit_table_layout.specs.Rows.{Row, are_rows, field_bits, table_bits, all_numbers}
use Rattle.bit_table_layout.specs.Readings.{rows_from}
use Rattle.bit_table_layout.specs.Images.{byte_of, bytes_of, image_bytes}
use Rattle.bit_table_layout.specs.Loads.{bits_of_bytes, rows_in_bytes, is_image, LoadsTakeImages}
use Rattle.bit_table_layout.specs.Steps.{is_cut}
use Rattle.bit_table_layout.proofs.DigitLemmas.{digits, binary-lt, binary-digits-pos, binary-append}
use Rattle.bit_table_layout.proofs.DigitLemmas.{binary-zeros_before}
use Rattle.bit_table_layout.proofs.ReadingLemmas.{field_bits-digits, length-field_bits}
use Rattle.bit_table_layout.proofs.RowLemmas.{length-table_bits, length-rows_from, are_rows-rows_from}
use Rattle.bit_table_layout.proofs.RowLemmas.{table_bits-rows_from, rows_from-take, rows_from-table_bits}
use Rattle.bit_table_layout.proofs.ImageLemmas.{byte_of-lt, bit_in_chunk, length-bytes_of, get_or-bytes_of}
use Rattle.bit_table_layout.proofs.ImageLemmas.{IsBytes-bytes_of, bytes_of-injective, length-image_bytes}

-- ---- one byte

-- the bits of a byte make it
byte_of-field_bits : (rule : Rule) (b : ℕ) → b < 256 → byte_of rule (field_bits rule 8 (pos b)) ≡ b
byte_of-field_bits Low b h = binary-digits-pos 8 b h
byte_of-field_bits High b h = binary-digits-pos 8 b h

below_from_quotient : (b p : ℕ) → 0 < p → b / p ≡ 0 → b < p
below_from_quotient b p some e = elim (cases_lt b p) [
  | inl below ↦ below
  | inr above ↦ let one : 1 ≤ b / p = le-div 1 b p some (omega arith) in absurd (omega arith)
]

tests_agree : (a b x : ℕ) → (a ≡ b → x ≡ 0) → (x ≡ 0 → a ≡ b) → (a == b) ≡ (x == 0)
tests_agree a b x to from =
    let zero_test = Decides-eqb x 0 in
    same_from_decides (a == b) (x == 0) (Decides-eqb a b)
    (λ e. from (zero_test.0 e), λ e. zero_test.1 (to e))

high_test : (r q p b : ℕ) → r < p → r + p * q ≡ b → (p * q == b) ≡ (b % p == 0)
high_test r q p b small whole =
    let rest : b % p ≡ r =
    ap (λ n. n % p) (sym whole ∙ omega (arith, mul_comm p q)) ∙ mod-mul-add q p r small in
    tests_agree (p * q) b (b % p) (λ e. omega arith) (λ e. omega arith)

-- under `low` the bits past the first so many are the highest digits
pub cut_low : (b used : ℕ) → used ≤ 8 → (byte_of Low (take used (field_bits Low 8 (pos b))) == b) ≡ (b / 2 ^ used == 0)
cut_low b used few =
    let kept = digits (pos b) used in
    let is : take used (digits (pos b) 8) ≡ kept = take-map-range_with_len (has_digit (pos b)) 0 8 used few in
    let size : 2 ^ length kept ≡ 2 ^ used =
    ap (λ n. 2 ^ n) (length-map-range_with_len (has_digit (pos b)) 0 used) in
    let small = binary-lt kept in
    ap (λ bits. binary bits == b) is ∙ tests_agree (binary kept) b (b / 2 ^ used)
    (λ e. div-eq_of_lt (omega arith))
    (λ e. binary-digits-pos used b (below_from_quotient b (2 ^ used) (pow_pos used) e))

-- under `high` they are the lowest
pub cut_high : (b used : ℕ) → used ≤ 8 → b < 256
    → (byte_of High (take used (field_bits High 8 (pos b))) == b) ≡ (b % 2 ^ (8 - used) == 0)
cut_high b used few h =
    let pad = 8 - used in
    let ds = digits (pos b) 8 in
    let xs = take pad ds in
    let ys = drop pad ds in
    let all : length ds ≡ 8 = length-map-range_with_len (has_digit (pos b)) 0 8 in
    let size : length xs ≡ pad = length-take-le pad ds (omega arith) in
    let others : length (reverse ys) ≡ used = length-reverse ys ∙ omega (arith, length-drop pad ds) in
    let kept : take used (field_bits High 8 (pos b)) ≡ reverse ys =
    ap (take used) (field_bits-digits High 8 (pos b) ∙ ap reverse (sym (take-append-drop pad ds))
    ∙ reverse-append xs ys) ∙ take_at (reverse ys) (reverse xs) used others in
    let zeros : 8 - length (reverse ys) ≡ pad = omega arith in
    let byte : byte_of High (reverse ys) ≡ 2 ^ pad * binary ys =
    ap₂ (λ n bits. binary (replicate n false ++ bits)) zeros (reverse-reverse ys) ∙ binary-zeros_before pad ys in
    let whole : binary xs + 2 ^ pad * binary ys ≡ b =
    ap (λ n. binary xs + 2 ^ n * binary ys) (sym size) ∙ sym (binary-append xs ys)
    ∙ ap binary (take-append-drop pad ds) ∙ binary-digits-pos 8 b h in
    let below : binary xs < 2 ^ pad = subst (λ n. binary xs < 2 ^ n) size (binary-lt xs) in
    ap (λ bits. byte_of High bits == b) kept ∙ ap (λ n. n == b) byte
    ∙ high_test (binary xs) (binary ys) (2 ^ pad) b below whole

-- ---- the bits of bytes

pub length-bits_of_bytes : (rule : Rule) (bytes : List ℕ) → length (bits_of_bytes rule bytes) ≡ 8 * length bytes
length-bits_of_bytes rule [] = refl
length-bits_of_bytes rule (b ∷ bytes) =
    let first = length-field_bits rule 8 (pos b) in
    let others = length-bits_of_bytes rule bytes in
    length-append (field_bits rule 8 (pos b)) (bits_of_bytes rule bytes) ∙ omega arith

pub chunk_of_bytes : (rule : Rule) (bytes : List ℕ) (k : ℕ) → k < length bytes
    → take 8 (drop (8 * k) (bits_of_bytes rule bytes)) ≡ field_bits rule 8 (pos (get_or bytes k 0))
chunk_of_bytes rule [] k h = absurd (omega arith)
chunk_of_bytes rule (b ∷ bytes) zero h =
    take_at (field_bits rule 8 (pos b)) (bits_of_bytes rule bytes) 8 (length-field_bits rule 8 (pos b))
chunk_of_bytes rule (b ∷ bytes) (suc k) h =
    let first = field_bits rule 8 (pos b) in
    let further : 8 * suc k ≡ length first + 8 * k = omega (arith, length-field_bits rule 8 (pos b)) in
    ap (λ n. take 8 (drop n (first ++ bits_of_bytes rule bytes))) further
    ∙ ap (take 8) (drop-append-add first (bits_of_bytes rule bytes) (8 * k))
    ∙ chunk_of_bytes rule bytes k (omega arith)

-- a bit of bytes is a bit of its byte
pub get_or-bits_of_bytes : (rule : Rule) (bytes : List ℕ) (i : ℕ) → i < 8 * length bytes
    → get_or (bits_of_bytes rule bytes) i false
    ≡ get_or (field_bits rule 8 (pos (get_or bytes (i / 8) 0))) (i % 8) false
get_or-bits_of_bytes rule bytes i h =
    sym (bit_in_chunk (bits_of_bytes rule bytes) i)
    ∙ ap (λ bits. get_or bits (i % 8) false) (chunk_of_bytes rule bytes (i / 8) (omega arith))

-- eight bits from place k on, of the first n bits
chunk_of_take : (bits : List Bool) (n k : ℕ) → k ≤ n
    → take 8 (drop k (take n bits)) ≡ take (min 8 (n - k)) (take 8 (drop k bits))
chunk_of_take bits n k h =
    let rest = drop k bits in
    let size : n ≡ k + (n - k) = omega arith in
    let cut : drop k (take n bits) ≡ take (n - k) rest =
    ap (λ m. drop k (take m bits)) size ∙ drop-take k (n - k) bits in
    ap (take 8) cut ∙ elim (cases_lt (n - k) 8) [
      | inl few ↦
          let least : n - k ≡ min 8 (n - k) = omega arith in
          let all = take_all 8 (take (n - k) rest) (omega (arith, length-take (n - k) rest)) in
          all ∙ sym (take-take (n - k) 8 rest (omega arith)) ∙ ap (λ m. take m (take 8 rest)) least
      | inr many ↦
          let least : 8 ≡ min 8 (n - k) = omega arith in
          take-take 8 (n - k) rest many ∙ sym (take-take 8 8 rest (omega arith)) ∙ ap (λ m. take m (take 8 rest)) least
    ]

-- the byte k of the first n bits of bytes
get_or-cut : (rule : Rule) (n : ℕ) (bytes : List ℕ) (k : ℕ) → length bytes ≡ (n + 7) / 8 → k < length bytes
    → get_or (bytes_of rule (take n (bits_of_bytes rule bytes))) k 0
    ≡ byte_of rule (take (min 8 (n - 8 * k)) (field_bits rule 8 (pos (get_or bytes k 0))))
get_or-cut rule n bytes k e h =
    let bits = bits_of_bytes rule bytes in
    let size = length-bits_of_bytes rule bytes in
    let long : length (take n bits) ≡ n = length-take-le n bits (omega arith) in
    get_or-bytes_of rule (take n bits) k 0 (omega arith)
    ∙ ap (byte_of rule) (chunk_of_take bits n (8 * k) (omega arith)
    ∙ ap (take (min 8 (n - 8 * k))) (chunk_of_bytes rule bytes k h))

-- bytes are those of their first n bits exactly if the last one is cut off there
pub cut_bytes : (rule : Rule) (n : ℕ) (bytes : List ℕ) → IsBytes bytes → length bytes ≡ (n + 7) / 8
    → (0 < length bytes → is_cut rule (n - 8 * (length bytes - 1)) (get_or bytes (length bytes - 1) 0) ≡ true)
    → bytes_of rule (take n (bits_of_bytes rule bytes)) ≡ bytes
cut_bytes rule n bytes small e cut =
    let bits = bits_of_bytes rule bytes in
    let size = length-bits_of_bytes rule bytes in
    let long : length (take n bits) ≡ n = length-take-le n bits (omega arith) in
    let count : length (bytes_of rule (take n bits)) ≡ length bytes =
    length-bytes_of rule (take n bits) ∙ ap (λ m. (m + 7) / 8) long ∙ sym e in
    ext_get_or 0 (bytes_of rule (take n bits)) bytes count (λ k h.
    let inside : k < length bytes = omega arith in
    let byte = get_or bytes k 0 in
    get_or-cut rule n bytes k e inside ∙ elim (cases_lt (n - 8 * k) 8) [
      | inl part ↦
          let last : k ≡ length bytes - 1 = omega arith in
          let used : min 8 (n - 8 * k) ≡ n - 8 * k = omega arith in
          ap (λ m. byte_of rule (take m (field_bits rule 8 (pos byte)))) used
          ∙ eqb-true _ _ (subst (λ i. is_cut rule (n - 8 * i) (get_or bytes i 0) ≡ true) (sym last) (cut (omega arith)))
      | inr whole ↦
          let all : min 8 (n - 8 * k) ≡ 8 = omega arith in
          let few = length-field_bits rule 8 (pos byte) in
          ap (λ m. byte_of rule (take m (field_bits rule 8 (pos byte)))) all
          ∙ ap (byte_of rule) (take_all 8 (field_bits rule 8 (pos byte)) (omega arith))
          ∙ byte_of-field_bits rule byte (small k)
    ])

pub cut_last : (rule : Rule) (n : ℕ) (bytes : List ℕ) → length bytes ≡ (n + 7) / 8 → 0 < length bytes
    → bytes_of rule (take n (bits_of_bytes rule bytes)) ≡ bytes
    → is_cut rule (n - 8 * (length bytes - 1)) (get_or bytes (length bytes - 1) 0) ≡ true
cut_last rule n bytes e some same =
    let k = length bytes - 1 in
    let byte = get_or bytes k 0 in
    let used : min 8 (n - 8 * k) ≡ n - 8 * k = omega arith in
    eq-eqb _ _ (ap (λ m. byte_of rule (take m (field_bits rule 8 (pos byte)))) (sym used)
    ∙ sym (get_or-cut rule n bytes k e (omega arith)) ∙ ap (λ bs. get_or bs k 0) same)

-- the last byte of n bits is cut off there
cut_byte_of : (rule : Rule) (eight : List Bool) (used : ℕ) → used ≤ 8 → length eight ≡ used
    → is_cut rule used (byte_of rule eight) ≡ true
cut_byte_of Low eight used few e =
    let below = binary-lt eight in
    let size : 2 ^ length eight ≡ 2 ^ used = ap (λ n. 2 ^ n) e in
    cut_low (binary eight) used few ∙ eq-eqb _ 0 (div-eq_of_lt (omega arith))
cut_byte_of High eight used few e =
    let pad = 8 - used in
    let bits = reverse eight in
    let zeros : 8 - length eight ≡ pad = omega arith in
    let byte : byte_of High eight ≡ binary bits * 2 ^ pad + 0 =
    ap (λ n. binary (replicate n false ++ bits)) zeros ∙ binary-zeros_before pad bits
    ∙ omega (arith, mul_comm (2 ^ pad) (binary bits)) in
    cut_high (byte_of High eight) used few (byte_of-lt High eight (omega arith))
    ∙ eq-eqb _ 0 (ap (λ n. n % 2 ^ pad) byte ∙ mod-mul-add (binary bits) (2 ^ pad) 0 (pow_pos pad))

-- the bytes of bits are those of their own bits
bytes_of-back : (rule : Rule) (bits : List Bool)
    → bytes_of rule (take (length bits) (bits_of_bytes rule (bytes_of rule bits))) ≡ bytes_of rule bits
bytes_of-back rule bits =
    let n = length bits in
    let bytes = bytes_of rule bits in
    let e : length bytes ≡ (n + 7) / 8 = length-bytes_of rule bits in
    cut_bytes rule n bytes (IsBytes-bytes_of rule bits) e (λ some.
    let k = length bytes - 1 in
    let chunk = take 8 (drop (8 * k) bits) in
    let size : length chunk ≡ n - 8 * k = length-take 8 (drop (8 * k) bits) ∙ omega (arith, length-drop (8 * k) bits) in
    subst (λ b. is_cut rule (n - 8 * k) b ≡ true) (sym (get_or-bytes_of rule bits k 0 (omega arith)))
    (cut_byte_of rule chunk (n - 8 * k) (omega arith) size))

pub bits_of_bytes-bytes_of : (rule : Rule) (bits : List Bool)
    → take (length bits) (bits_of_bytes rule (bytes_of rule bits)) ≡ bits
bits_of_bytes-bytes_of rule bits =
    let all = bits_of_bytes rule (bytes_of rule bits) in
    let size = length-bits_of_bytes rule (bytes_of rule bits) in
    let long = length-take-le (length bits) all (omega (arith, length-bytes_of rule bits)) in
    bytes_of-injective rule (take (length bits) all) bits long (bytes_of-back rule bits)

-- ---- the rows that bytes hold

pub length-rows_in_bytes : (l : LayoutShape) (count : ℕ) (bytes : List ℕ) → length (rows_in_bytes l count bytes) ≡ count
length-rows_in_bytes l count bytes = length-rows_from l count (bits_of_bytes l.rule bytes)

pub are_rows-rows_in_bytes : (l : LayoutShape) (count : ℕ) (bytes : List ℕ) → is_layout l ≡ true
    → are_rows l (rows_in_bytes l count bytes) ≡ true
are_rows-rows_in_bytes l count bytes lawful = are_rows-rows_from l count (bits_of_bytes l.rule bytes) lawful

-- where there are enough bytes, the rows' bits are the first of the bytes' bits
table_bits-enough : (l : LayoutShape) (count : ℕ) (bytes : List ℕ) → count * row_width l.fields ≤ 8 * length bytes
    → table_bits l (rows_in_bytes l count bytes) ≡ take (count * row_width l.fields) (bits_of_bytes l.rule bytes)
table_bits-enough l count bytes enough =
    let n = count * row_width l.fields in
    let bits = bits_of_bytes l.rule bytes in
    let long : length (take n bits) ≡ n = length-take-le n bits (omega (arith, length-bits_of_bytes l.rule bytes)) in
    ap (table_bits l) (sym (rows_from-take l count bits)) ∙ table_bits-rows_from l count (take n bits) long

pub is_image-Decides : (l : LayoutShape) (count : ℕ) (bytes : List ℕ)
    → Decides (is_image l count bytes) (image_bytes l (rows_in_bytes l count bytes) ≡ bytes)
is_image-Decides l count bytes = bytes_eq-Decides (image_bytes l (rows_in_bytes l count bytes)) bytes

-- an image has as many bytes as its rows' bits fill
length_of_image : (l : LayoutShape) (count : ℕ) (bytes : List ℕ) → is_layout l ≡ true
    → image_bytes l (rows_in_bytes l count bytes) ≡ bytes → length bytes ≡ (count * row_width l.fields + 7) / 8
length_of_image l count bytes lawful same =
    let are = are_rows-rows_in_bytes l count bytes lawful in
    sym (ap length same) ∙ length-image_bytes l (rows_in_bytes l count bytes) are
    ∙ ap (λ n. (n * row_width l.fields + 7) / 8) (length-rows_in_bytes l count bytes)

pub length-is_image : (l : LayoutShape) (count : ℕ) (bytes : List ℕ) → is_layout l ≡ true
    → is_image l count bytes ≡ true → length bytes ≡ (count * row_width l.fields + 7) / 8
length-is_image l count bytes lawful h =
    length_of_image l count bytes lawful ((is_image-Decides l count bytes).0 h)

pub table_bits-rows_in_bytes : (l : LayoutShape) (count : ℕ) (bytes : List ℕ) → is_layout l ≡ true
    → is_image l count bytes ≡ true
    → table_bits l (rows_in_bytes l count bytes) ≡ take (count * row_width l.fields) (bits_of_bytes l.rule bytes)
table_bits-rows_in_bytes l count bytes lawful h =
    let size = length-is_image l count bytes lawful h in
    table_bits-enough l count bytes (omega arith)

-- bytes whose first bits give them back are an image
image_from_bits : (l : LayoutShape) (count : ℕ) (bytes : List ℕ) → length bytes ≡ (count * row_width l.fields + 7) / 8
    → bytes_of l.rule (take (count * row_width l.fields) (bits_of_bytes l.rule bytes)) ≡ bytes
    → image_bytes l (rows_in_bytes l count bytes) ≡ bytes
image_from_bits l count bytes e same = ap (bytes_of l.rule) (table_bits-enough l count bytes (omega arith)) ∙ same

bits_of_image : (l : LayoutShape) (count : ℕ) (bytes : List ℕ) → length bytes ≡ (count * row_width l.fields + 7) / 8
    → image_bytes l (rows_in_bytes l count bytes) ≡ bytes
    → bytes_of l.rule (take (count * row_width l.fields) (bits_of_bytes l.rule bytes)) ≡ bytes
bits_of_image l count bytes e same = sym (ap (bytes_of l.rule) (table_bits-enough l count bytes (omega arith))) ∙ same

-- the rows of an image have the numbers of the rows whose image it is
pub all_numbers-rows_in_bytes : (l : LayoutShape) (rows : List Row) → is_layout l ≡ true → are_rows l rows ≡ true
    → all_numbers (rows_in_bytes l (length rows) (image_bytes l rows)) ≡ all_numbers rows
all_numbers-rows_in_bytes l rows lawful are =
    let bits = table_bits l rows in
    let all = bits_of_bytes l.rule (image_bytes l rows) in
    let size : length rows * row_width l.fields ≡ length bits = sym (length-table_bits l rows are) in
    let same : take (length rows * row_width l.fields) all ≡ bits =
    ap (λ n. take n all) size ∙ bits_of_bytes-bytes_of l.rule bits in
    ap all_numbers (sym (rows_from-take l (length rows) all) ∙ ap (rows_from l (length rows)) same)
    ∙ rows_from-table_bits l rows lawful are

-- ---- what the test answers

pub no_image-length : (l : LayoutShape) (count : ℕ) (bytes : List ℕ) → is_layout l ≡ true
    → (length bytes ≢ (count * row_width l.fields + 7) / 8) → is_image l count bytes ≡ false
no_image-length l count bytes lawful other =
    same_from_decides {P = image_bytes l (rows_in_bytes l count bytes) ≡ bytes} (is_image l count bytes) false
    (is_image-Decides l count bytes)
    (λ never. absurd cc, λ same. absurd (other (length_of_image l count bytes lawful same)))

pub is_image-none : (l : LayoutShape) (count : ℕ) (bytes : List ℕ) → IsBytes bytes → length bytes ≡ 0
    → length bytes ≡ (count * row_width l.fields + 7) / 8 → is_image l count bytes ≡ true
is_image-none l count bytes small none e =
    (is_image-Decides l count bytes).1 (image_from_bits l count bytes e
    (cut_bytes l.rule (count * row_width l.fields) bytes small e (λ some. absurd (omega arith))))

pub is_image-last : (l : LayoutShape) (count : ℕ) (bytes : List ℕ) → IsBytes bytes → 0 < length bytes
    → length bytes ≡ (count * row_width l.fields + 7) / 8
    → is_cut l.rule (count * row_width l.fields - 8 * (length bytes - 1)) (get_or bytes (length bytes - 1) 0)
    ≡ is_image l count bytes
is_image-last l count bytes small some e =
    let n = count * row_width l.fields in
    let cut = is_cut l.rule (n - 8 * (length bytes - 1)) (get_or bytes (length bytes - 1) 0) in
    same_from_decides {P = image_bytes l (rows_in_bytes l count bytes) ≡ bytes} cut (is_image l count bytes) (
      λ h. image_from_bits l count bytes e (cut_bytes l.rule n bytes small e (λ _. h)),
      λ same. cut_last l.rule n bytes e some (bits_of_image l count bytes e same),
    )
    (is_image-Decides l count bytes)

-- ---- exactly the images are taken

image_taken : (l : LayoutShape) → is_layout l ≡ true → (count : ℕ) (bytes : List ℕ) (rows : List Row)
    → are_rows l rows ≡ true → length rows ≡ count → image_bytes l rows ≡ bytes
    → is_image l count bytes ≡ true
image_taken l lawful count bytes rows are e image =
    let w = row_width l.fields in
    let bits = table_bits l rows in
    let n : length bits ≡ count * w = length-table_bits l rows are ∙ ap (λ m. m * w) e in
    let size : length bytes ≡ (count * w + 7) / 8 =
    ap length (sym image) ∙ length-bytes_of l.rule bits ∙ ap (λ m. (m + 7) / 8) n in
    let same : bytes_of l.rule (take (count * w) (bits_of_bytes l.rule bytes)) ≡ bytes =
    ap₂ (λ m bs. bytes_of l.rule (take m (bits_of_bytes l.rule bs))) (sym n) (sym image)
    ∙ bytes_of-back l.rule bits ∙ image in
    (is_image-Decides l count bytes).1 (image_from_bits l count bytes size same)

pub loads_take_images : LoadsTakeImages
loads_take_images = λ l lawful count bytes. (
  λ h.
      let rows = rows_in_bytes l count bytes in (
        rows,
        are_rows-rows_in_bytes l count bytes lawful,
        length-rows_in_bytes l count bytes,
        (is_image-Decides l count bytes).0 h,
      ),
  λ has. image_taken l lawful count bytes has.0 has.1 has.2 has.3,
)

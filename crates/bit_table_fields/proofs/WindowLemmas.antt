-- A field's bits in a list, bit by bit: what a loop has stored, and what it has read.
--
-- Stored: `get_or-field_bits`, `none_written`, `digit_stored`, `all_stored`, `whole_stored`. Read: `so_far`, `so_far_none`,
-- `so_far_more`, `so_far_all`, `so_far_small`.
use Rattle.std.proofs.Common.{◌≡◌, ℕ, ◌+◌, ◌-◌, ◌*◌, ◌^◌, ◌<◌, ◌≤◌, Bool, true, false, List, [], length, cond, inl, inr}
use Rattle.std.proofs.Common.{get_or, take, drop, reverse, ℤ, sym, refl, ap, ap₂, ◌∙◌, arith, length-set, length-take}
use Rattle.std.proofs.Common.{get_or-set_same, get_or-set_other, pow_mono}
use Rattle.std.specs.Prelude.{slice_set}
use Rattle.std.specs.List.{range_with_len}
use Rattle.std.proofs.lemmas.Bool.{cases_eq}
use Rattle.std.proofs.lemmas.List.{take_all, drop_all, get_or-map, get_or-reverse, length-reverse, places, same_lists}
use Rattle.std.proofs.lemmas.List.{length-drop}
use Rattle.std.proofs.lemmas.List.FromFn.{length-range_with_len, get_or-range_with_len, get_or-map-range_with_len}
use mir.Val.{bool_byte}
use Rattle.bit_addressing_memory.specs.Memory.{with_piece}
use Rattle.bit_table_layout.specs.declared.layout.Rule.{Rule}
use Rattle.bit_table_layout.specs.declared.layout.Rule.TheVariants.{Low, High}
use Rattle.bit_table_layout.specs.Digits.{has_digit, binary}
use Rattle.bit_table_layout.specs.Readings.{lowest_first}
use Rattle.bit_table_layout.specs.Rows.{field_bits}
use Rattle.bit_table_layout.proofs.DigitLemmas.{binary-drop_more, binary-lt, binary-reverse-take_more}
use Rattle.bit_table_layout.proofs.ReadingLemmas.{length-field_bits}
use Rattle.bit_table_fields.specs.Places.{digit_place}

-- ---- stored

-- bit i of a field
pub get_or-field_bits : (rule : Rule) (n : ℕ) (v : ℤ) (i : ℕ) → i < n
    → get_or (field_bits rule n v) i false ≡ has_digit v (digit_place rule n i)
get_or-field_bits Low n v i low = get_or-map-range_with_len (has_digit v) 0 n i i false low (omega arith)
get_or-field_bits High n v i low =
    let places = range_with_len 0 n in
    let long = length-range_with_len 0 n in
    let inside : i < length (reverse places) = omega (arith, length-reverse places) in
    let place : get_or (reverse places) i 0 ≡ n - 1 - i =
    get_or-reverse places i 0 (omega arith)
    ∙ ap (λ m. get_or places (m - 1 - i) 0) long
    ∙ get_or-range_with_len 0 n (n - 1 - i) 0 (omega arith)
    ∙ omega arith in
    get_or-map (has_digit v) (reverse places) i 0 false inside ∙ ap (has_digit v) place

-- nothing written
pub none_written : (xs : List Bool) (a : ℕ) → a ≤ length xs → with_piece xs a [] ≡ xs
unfolding with_piece
none_written xs a within = same_lists _ _ (grind (arith, places)) (λ k d h. grind (arith, places))

-- one bit more of a list written over another
written_more : (xs ys : List Bool) (a k : ℕ) → a + length ys ≤ length xs → k < length ys
    → slice_set (with_piece xs a (take k ys)) (a + k) (get_or ys k false) ≡ with_piece xs a (take (k + 1) ys)
unfolding with_piece
written_more xs ys a k fits low =
    let now = with_piece xs a (take k ys) in
    let bit = get_or ys k false in
    same_lists _ _ (grind (arith, places, length-set now (a + k) bit)) (λ j d h. elim (cases_eq j (a + k)) [
      | inl same ↦ rw same (grind (arith, places, get_or-set_same now (a + k) bit d))
      | inr other ↦ grind (arith, places, get_or-set_other now (a + k) j bit d other)
    ])

-- one digit more stored
pub digit_stored : (rule : Rule) (n : ℕ) (v : ℤ) (a k : ℕ) (old now new : List Bool) (bit : Bool) → k < n
    → a + n ≤ length old → now ≡ with_piece old a (take k (field_bits rule n v))
    → bit ≡ has_digit v (digit_place rule n k) → new ≡ slice_set now (a + k) bit
    → new ≡ with_piece old a (take (k + 1) (field_bits rule n v))
digit_stored rule n v a k old now new bit low fits before is wrote =
    let ys = field_bits rule n v in
    let size = length-field_bits rule n v in
    wrote
    ∙ ap₂ (λ xs b. slice_set xs (a + k) b) before (is ∙ sym (get_or-field_bits rule n v k low))
    ∙ written_more old ys a k (omega arith) (omega arith)

-- a number stored in all bits of a list
pub whole_stored : (rule : Rule) (n : ℕ) (v : ℤ) (xs : List Bool) → n ≡ length xs
    → with_piece xs 0 (field_bits rule n v) ≡ field_bits rule (length xs) v
unfolding with_piece
whole_stored rule n v xs all =
    let size = length-field_bits rule n v in
    same_lists _ _ (grind (arith, places)) (λ k d h. grind (arith, places)) ∙ ap (λ m. field_bits rule m v) all

-- all digits stored
pub all_stored : (rule : Rule) (n : ℕ) (v : ℤ) (k : ℕ) → k ≡ n → take k (field_bits rule n v) ≡ field_bits rule n v
all_stored rule n v k all = take_all k (field_bits rule n v) (omega (arith, length-field_bits rule n v))

-- ---- read

-- the number of the k highest digits of a window
abbrev pub so_far : Rule → ℕ → List Bool → ℕ → ℕ
so_far Low n bits k = binary (drop (n - k) bits)
so_far High n bits k = binary (reverse (take k bits))

pub so_far_none : (rule : Rule) (n : ℕ) (bits : List Bool) → length bits ≡ n → so_far rule n bits 0 ≡ 0
so_far_none Low n bits e = ap binary (drop_all (n - 0) bits (omega arith))
so_far_none High n bits e = refl

-- one digit more
pub so_far_more : (rule : Rule) (n : ℕ) (bits : List Bool) (k : ℕ) → length bits ≡ n → k < n
    → so_far rule n bits (k + 1)
    ≡ cond (get_or bits (digit_place rule n (n - 1 - k)) false) 1 0 + 2 * so_far rule n bits k
so_far_more Low n bits k e h =
    let place : n - (k + 1) ≡ n - 1 - k = omega arith in
    let next : n - 1 - k + 1 ≡ n - k = omega arith in
    ap (λ p. binary (drop p bits)) place
    ∙ binary-drop_more bits (n - 1 - k) (omega arith)
    ∙ ap (λ p. cond (get_or bits (n - 1 - k) false) 1 0 + 2 * binary (drop p bits)) next
so_far_more High n bits k e h =
    let place : n - 1 - (n - 1 - k) ≡ k = omega arith in
    binary-reverse-take_more bits k (omega arith)
    ∙ ap (λ p. cond (get_or bits p false) 1 0 + 2 * binary (reverse (take k bits))) (sym place)

-- all digits
pub so_far_all : (rule : Rule) (n : ℕ) (bits : List Bool) (k : ℕ) → length bits ≡ n → k ≡ n
    → so_far rule n bits k ≡ binary (lowest_first rule bits)
so_far_all Low n bits k e h =
    let none : n - k ≡ 0 = omega arith in
    ap (λ p. binary (drop p bits)) none
so_far_all High n bits k e h = ap (λ xs. binary (reverse xs)) (take_all k bits (omega arith))

pub so_far_small : (rule : Rule) (n : ℕ) (bits : List Bool) (k : ℕ) → length bits ≡ n → k ≤ n → n ≤ 64
    → so_far rule n bits k < 2 ^ 64
so_far_small Low n bits k e h small =
    let below = binary-lt (drop (n - k) bits) in
    let len : length (drop (n - k) bits) ≤ 64 = omega (arith, length-drop (n - k) bits) in
    let grows : 2 ^ length (drop (n - k) bits) ≤ 2 ^ 64 = pow_mono len in
    omega arith
so_far_small High n bits k e h small =
    let below = binary-lt (reverse (take k bits)) in
    let len : length (reverse (take k bits)) ≤ 64 = omega (arith, length-reverse (take k bits), length-take k bits) in
    let grows : 2 ^ length (reverse (take k bits)) ≤ 2 ^ 64 = pow_mono len in
    omega arith

-- a bit as a number
pub byte_is : (b : Bool) → bool_byte b ≡ cond b 1 0
byte_is true = refl
byte_is false = refl

pub bit_small : (b : Bool) → cond b 1 0 ≤ 1
bit_small true = omega arith
bit_small false = omega arith

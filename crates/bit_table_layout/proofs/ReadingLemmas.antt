-- Numbers and rows as bits give them back.
use Rattle.std.proofs.Common.{◌≡◌, ◌⊎◌, inl, inr, ℕ, suc, ◌+◌, ◌-◌, ◌*◌, ◌^◌, ◌<◌, ◌≤◌, Bool, true, false}
use Rattle.std.proofs.Common.{◌&&◌, List, [], ◌∷◌, ◌++◌, length, map, reverse}
use Rattle.std.proofs.Common.{take, drop, ℤ, pos, negsuc, ◌-ℤ◌, refl, sym, ap}
use Rattle.std.proofs.Common.{ap₂, ◌∙◌, arith, length-append, length-drop, length-take, length-take-le, pow_mono}
use Rattle.std.proofs.Common.{take_at, drop_at, take-append-drop, le-leb, lt-ltb}
use Rattle.std.proofs.Common.{ltb-true, leb-true}
use Rattle.std.specs.Prelude.{nat_le, int_le, int_lt}
use Rattle.std.specs.List.{list_all, range_with_len}
use Rattle.std.proofs.Math.Nat.{pow-suc}
use Rattle.std.proofs.lemmas.Bool.{and_parts, and_from, cond-true, cond-false, cases_lt, lt-leb}
use Rattle.std.proofs.lemmas.Int.{ints}
use Rattle.std.proofs.lemmas.List.{reverse-append, reverse-reverse, length-reverse, map_push, nil_from_length}
use Rattle.std.proofs.lemmas.List.FromFn.{length-map-range_with_len}
use Rattle.std.proofs.lemmas.List.Sums.{sum_by-cons}
use Rattle.bit_table_layout.specs.declared.layout.Rule.{Rule}
use Rattle.bit_table_layout.specs.declared.layout.Rule.TheVariants.{Low, High}
use Rattle.bit_table_layout.specs.Digits.{has_digit, binary}
use Rattle.bit_table_layout.specs.Fields.{FieldShape, least, limit, takes, is_name}
use Rattle.bit_table_layout.specs.Layouts.{row_width}
use Rattle.bit_table_layout.specs.Fields.{is_field}
use Rattle.bit_table_layout.specs.Rows.{take_all, field_bits, numbers_bits}
use Rattle.bit_table_layout.specs.Readings.{lowest_first, number_from_digits, number_from, numbers_from}
use Rattle.bit_table_layout.proofs.DigitLemmas.{digits, binary-lt, binary-digits-pos, binary-digits-negsuc}
use Rattle.bit_table_layout.proofs.DigitLemmas.{digits-binary, digits-lacking}

-- ---- one field

map-reverse : {X Y : Type 0} (f : X → Y) (xs : List X) → map f (reverse xs) ≡ reverse (map f xs)
map-reverse f [] = refl
map-reverse f (x ∷ xs) =
    ap (map f) (reverse-append (x ∷ []) xs) ∙ map_push f (reverse xs) x
    ∙ ap (λ l. l ++ f x ∷ []) (map-reverse f xs) ∙ sym (reverse-append (f x ∷ []) (map f xs))

pub field_bits-digits : (rule : Rule) (n : ℕ) (v : ℤ) → field_bits rule n v ≡ lowest_first rule (digits v n)
field_bits-digits Low n v = refl
field_bits-digits High n v = map-reverse (has_digit v) (range_with_len 0 n)

lowest_first-twice : (rule : Rule) (bits : List Bool) → lowest_first rule (lowest_first rule bits) ≡ bits
lowest_first-twice Low bits = refl
lowest_first-twice High bits = reverse-reverse bits

length-lowest_first : (rule : Rule) (bits : List Bool) → length (lowest_first rule bits) ≡ length bits
length-lowest_first Low bits = refl
length-lowest_first High bits = length-reverse bits

pub length-field_bits : (rule : Rule) (n : ℕ) (v : ℤ) → length (field_bits rule n v) ≡ n
length-field_bits rule n v =
    ap length (field_bits-digits rule n v) ∙ length-lowest_first rule (digits v n)
    ∙ length-map-range_with_len (has_digit v) 0 n

some_width : (f : FieldShape) → is_field f ≡ true → 1 ≤ f.width
some_width f h =
    let widths = and_parts (is_name f.name) (nat_le 1 f.width && nat_le f.width 64) h in
    leb-true 1 f.width (and_parts (nat_le 1 f.width) (nat_le f.width 64) widths.1).0

row_width-cons : (f : FieldShape) (fs : List FieldShape) → row_width (f ∷ fs) ≡ f.width + row_width fs
row_width-cons f fs = sum_by-cons (λ g. g.width) f fs

doubled : (n : ℕ) → 1 ≤ n → 2 ^ n ≡ 2 * 2 ^ (n - 1)
doubled n h =
    let e : n ≡ suc (n - 1) = omega arith in
    ap (λ m. 2 ^ m) e ∙ pow-suc 2 (n - 1) ∙ omega arith

-- what the bounds of a field say
taken : (f : FieldShape) (v : ℤ) → takes f v ≡ true → (int_le (least f) v ≡ true) × (int_lt v (limit f) ≡ true)
taken f v h = and_parts (int_le (least f) v) (int_lt v (limit f)) h

in_bounds : (f : FieldShape) (v : ℤ) → int_le (least f) v ≡ true → int_lt v (limit f) ≡ true → takes f v ≡ true
in_bounds f v low high = and_from (int_le (least f) v) (int_lt v (limit f)) low high

-- the number that digits spell, where it has no sign or its highest digit is 0, and where it has one and that is 1
from_low_digits : (signed : Bool) (n u : ℕ) → u < 2 ^ (n - 1) → number_from_digits signed n u ≡ pos u
from_low_digits false n u h = refl
from_low_digits true n u h =
    cond-false (nat_le (2 ^ (n - 1)) u) (pos u -ℤ pos (2 ^ n)) (pos u) (lt-leb (2 ^ (n - 1)) u h)

from_high_digits : (n u : ℕ) → 2 ^ (n - 1) ≤ u → number_from_digits true n u ≡ pos u -ℤ pos (2 ^ n)
from_high_digits n u h =
    cond-true (nat_le (2 ^ (n - 1)) u) (pos u -ℤ pos (2 ^ n)) (pos u) (le-leb (2 ^ (n - 1)) u h)

-- the number of a field's digits is the number that the field took
number_back : (name : List ℕ) (n : ℕ) (signed : Bool) (v : ℤ) → 1 ≤ n
    → takes (record { name = name; width = n; signed = signed }) v ≡ true
    → number_from_digits signed n (binary (digits v n)) ≡ v
number_back name n false (pos a) some h =
    let within = taken (record { name = name; width = n; signed = false }) (pos a) h in
    ap pos (binary-digits-pos n a (ltb-true a (2 ^ n) within.1))
number_back name n false (negsuc a) some h = cc
number_back name n true (pos a) some h =
    let within = taken (record { name = name; width = n; signed = true }) (pos a) h in
    let low : a < 2 ^ (n - 1) = ltb-true a (2 ^ (n - 1)) within.1 in
    let twice = doubled n some in
    let same : binary (digits (pos a) n) ≡ a = binary-digits-pos n a (omega arith) in
    ap (number_from_digits true n) same ∙ from_low_digits true n a low
number_back name n true (negsuc a) some h =
    let within = taken (record { name = name; width = n; signed = true }) (negsuc a) h in
    let low : a < 2 ^ (n - 1) = omega (arith, ints) in
    let twice = doubled n some in
    let same : binary (digits (negsuc a) n) + suc a ≡ 2 ^ n = binary-digits-negsuc n a (omega arith) in
    from_high_digits n (binary (digits (negsuc a) n)) (omega arith) ∙ omega (arith, ints)

-- a field takes the number that digits spell
takes_back : (name : List ℕ) (n : ℕ) (signed : Bool) (u : ℕ) → 1 ≤ n → u < 2 ^ n
    → takes (record { name = name; width = n; signed = signed }) (number_from_digits signed n u) ≡ true
takes_back name n false u some h =
    in_bounds (record { name = name; width = n; signed = false }) (pos u) (le-leb 0 u (omega arith))
    (lt-ltb u (2 ^ n) h)
takes_back name n true u some h =
    let f : FieldShape = record { name = name; width = n; signed = true } in
    let twice = doubled n some in
    elim (cases_lt u (2 ^ (n - 1))) [
      | inl low ↦
          ap (takes f) (from_low_digits true n u low)
          ∙ in_bounds f (pos u) (grind (arith, ints)) (grind (arith, ints))
      | inr high ↦
          ap (takes f) (from_high_digits n u high)
          ∙ in_bounds f (pos u -ℤ pos (2 ^ n)) (grind (arith, ints)) (grind (arith, ints))
    ]

-- the digits of the number that bits spell are the bits
digits_back : (signed : Bool) (n : ℕ) (bits : List Bool) → length bits ≡ n
    → digits (number_from_digits signed n (binary bits)) n ≡ bits
digits_back signed n bits e = by signed (cases_lt (binary bits) (2 ^ (n - 1)))
  where
    plain : digits (pos (binary bits)) n ≡ bits
    plain = ap (digits (pos (binary bits))) (sym e) ∙ digits-binary bits

    by : (signed : Bool) → (binary bits < 2 ^ (n - 1)) ⊎ (2 ^ (n - 1) ≤ binary bits)
        → digits (number_from_digits signed n (binary bits)) n ≡ bits
    by false side = plain
    by true (inl low) = ap (λ v. digits v n) (from_low_digits true n (binary bits) low) ∙ plain
    by true (inr high) =
        let lacks : ℕ = 2 ^ n - 1 - binary bits in
        let below : binary bits < 2 ^ length bits = binary-lt bits in
        let size : 2 ^ length bits ≡ 2 ^ n = ap (λ m. 2 ^ m) e in
        let whole : binary bits + suc lacks ≡ 2 ^ length bits = omega arith in
        let is : pos (binary bits) -ℤ pos (2 ^ n) ≡ negsuc lacks = omega (arith, ints) in
        ap (λ v. digits v n) (from_high_digits n (binary bits) high ∙ is)
        ∙ ap (digits (negsuc lacks)) (sym e) ∙ digits-lacking bits lacks whole

-- ---- a field's bits

pub number_from-field_bits : (rule : Rule) (f : FieldShape) (v : ℤ) → is_field f ≡ true → takes f v ≡ true
    → number_from rule f (field_bits rule f.width v) ≡ v
number_from-field_bits rule f v lawful h =
    let bits : lowest_first rule (field_bits rule f.width v) ≡ digits v f.width =
    ap (lowest_first rule) (field_bits-digits rule f.width v) ∙ lowest_first-twice rule (digits v f.width) in
    ap (λ bs. number_from_digits f.signed f.width (binary bs)) bits
    ∙ number_back f.name f.width f.signed v (some_width f lawful) h

pub field_bits-number_from : (rule : Rule) (f : FieldShape) (bits : List Bool) → length bits ≡ f.width
    → field_bits rule f.width (number_from rule f bits) ≡ bits
field_bits-number_from rule f bits e =
    field_bits-digits rule f.width (number_from rule f bits)
    ∙ ap (lowest_first rule)
    (digits_back f.signed f.width (lowest_first rule bits) (length-lowest_first rule bits ∙ e))
    ∙ lowest_first-twice rule bits

pub takes-number_from_few : (rule : Rule) (f : FieldShape) (bits : List Bool) → is_field f ≡ true
    → length bits ≤ f.width → takes f (number_from rule f bits) ≡ true
takes-number_from_few rule f bits lawful few =
    let size = length-lowest_first rule bits in
    let most : 2 ^ length (lowest_first rule bits) ≤ 2 ^ f.width = pow_mono (omega arith) in
    let below = binary-lt (lowest_first rule bits) in
    takes_back f.name f.width f.signed (binary (lowest_first rule bits)) (some_width f lawful) (omega arith)

pub takes-number_from : (rule : Rule) (f : FieldShape) (bits : List Bool) → is_field f ≡ true → length bits ≡ f.width
    → takes f (number_from rule f bits) ≡ true
takes-number_from rule f bits lawful e = takes-number_from_few rule f bits lawful (omega arith)

-- ---- the fields of a row

pub length-numbers_bits : (rule : Rule) (fs : List FieldShape) (vs : List ℤ) → take_all fs vs ≡ true
    → length (numbers_bits rule fs vs) ≡ row_width fs
length-numbers_bits rule [] vs h = refl
length-numbers_bits rule (f ∷ fs) [] h = cc
length-numbers_bits rule (f ∷ fs) (v ∷ vs) h =
    let both = and_parts (takes f v) (take_all fs vs) h in
    length-append (field_bits rule f.width v) (numbers_bits rule fs vs)
    ∙ ap₂ (λ a b. a + b) (length-field_bits rule f.width v) (length-numbers_bits rule fs vs both.1)
    ∙ sym (row_width-cons f fs)

pub numbers_from-numbers_bits : (rule : Rule) (fs : List FieldShape) (vs : List ℤ) → list_all is_field fs ≡ true
    → take_all fs vs ≡ true → numbers_from rule fs (numbers_bits rule fs vs) ≡ vs
numbers_from-numbers_bits rule [] [] lawful h = refl
numbers_from-numbers_bits rule [] (v ∷ vs) lawful h = cc
numbers_from-numbers_bits rule (f ∷ fs) [] lawful h = cc
numbers_from-numbers_bits rule (f ∷ fs) (v ∷ vs) lawful h =
    let fields = and_parts (is_field f) (list_all is_field fs) lawful in
    let both = and_parts (takes f v) (take_all fs vs) h in
    let long = length-field_bits rule f.width v in
    let first = take_at (field_bits rule f.width v) (numbers_bits rule fs vs) f.width long in
    let others = drop_at (field_bits rule f.width v) (numbers_bits rule fs vs) f.width long in
    ap₂ (λ x xs. number_from rule f x ∷ numbers_from rule fs xs) first others
    ∙ ap₂ (λ x xs. x ∷ xs) (number_from-field_bits rule f v fields.0 both.0)
    (numbers_from-numbers_bits rule fs vs fields.1 both.1)

pub numbers_bits-numbers_from : (rule : Rule) (fs : List FieldShape) (bits : List Bool) → length bits ≡ row_width fs
    → numbers_bits rule fs (numbers_from rule fs bits) ≡ bits
numbers_bits-numbers_from rule [] bits e = sym (nil_from_length bits e)
numbers_bits-numbers_from rule (f ∷ fs) bits e =
    let split = row_width-cons f fs in
    let first = length-take-le f.width bits (omega arith) in
    let others : length (drop f.width bits) ≡ row_width fs = omega (arith, length-drop f.width bits) in
    ap₂ (λ x xs. x ++ xs) (field_bits-number_from rule f (take f.width bits) first)
    (numbers_bits-numbers_from rule fs (drop f.width bits) others)
    ∙ take-append-drop f.width bits

-- bits that are too few are read as if zeros followed
pub take_all-numbers_from : (rule : Rule) (fs : List FieldShape) (bits : List Bool) → list_all is_field fs ≡ true
    → take_all fs (numbers_from rule fs bits) ≡ true
take_all-numbers_from rule [] bits lawful = refl
take_all-numbers_from rule (f ∷ fs) bits lawful =
    let fields = and_parts (is_field f) (list_all is_field fs) lawful in
    let few : length (take f.width bits) ≤ f.width = omega (arith, length-take f.width bits) in
    and_from (takes f (number_from rule f (take f.width bits)))
    (take_all fs (numbers_from rule fs (drop f.width bits)))
    (takes-number_from_few rule f (take f.width bits) fields.0 few)
    (take_all-numbers_from rule fs (drop f.width bits) fields.1)

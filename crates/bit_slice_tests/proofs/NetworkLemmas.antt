-- Numbers in network order.
--
-- Some bits are a number's digits: `holds_list`; still so beside a write: `holds_beside`; end to end: `holds_join`.
-- All digits of eight bytes: `holds_bytes`. What these tell: `same_header`.
use Rattle.std.proofs.Common.{◌≡◌, ◌⊎◌, ℕ, ◌+◌, ◌-◌, ◌*◌, ◌/◌, ◌%◌, ◌^◌, ◌<◌, ◌≤◌, false, List, length, get_or}
use Rattle.std.proofs.Common.{refl, sym, ap, ◌∙◌, inl, inr, arith, lit<, ◌==◌}
use Rattle.std.specs.Prelude.{ℤ}
use Rattle.std.specs.Int.{bit_at}
use Rattle.std.proofs.Math.Nat.{div-div-eq-div-mul, mod-lt, mod-eq_of_lt}
use Rattle.std.proofs.Math.Pow.{pow_pos}
use Rattle.std.proofs.lemmas.Bool.{cases_lt}
use Rattle.std.proofs.lemmas.List.{ext_get_or}
use Rattle.std.proofs.lemmas.List.FromFn.{length-map-range_with_len, get_or-map-range_with_len}
use Rattle.std.proofs.lemmas.Nat.{pow-add}
use Rattle.std.proofs.lemmas.Nat.Bits.{bit_at_cat_low, bit_at_cat_high, bit_at-lt, same_from_bits_below}
use Rattle.bit_addressing_memory.specs.Bits.{digit_at}
use Rattle.bit_addressing_memory.specs.Memory.{entry, memory, piece}
use Rattle.bit_addressing_memory.proofs.EntryLemmas.{entry_at}
use Rattle.bit_addressing_memory.proofs.OrderCallerLemmas.{get_or-bits_in_order}
use Rattle.bit_addressing_memory.proofs.WindowLemmas.{window_bit}
use Rattle.bit_slice_views_mut.specs.Frame.{KeepsBeside}
use Rattle.bit_slice_fields.specs.Whole.{low_digits}
use Rattle.bit_slice_fields.proofs.DigitsLemmas.{low_digit, same_digit}
use Rattle.bit_slice_tests.specs.Header.{bytes_of, header_number, header_bytes}
use Rattle.bit_slice.specs.Network.{network, network_bits}

-- the n bits from a place on are the digits of a number, the highest first
pub record HoldsNumber (bytes : List ℕ) (place n number : ℕ) : Type 0 where
  pub digits : (i : ℕ) → i < n → entry network bytes (place + i) ≡ digit_at number (n - 1 - i)

pub holds_list : (bytes : List ℕ) (place n number : ℕ) (z : ℤ) → low_digits n z ≡ number
    → piece (memory network bytes) place n ≡ network_bits n z → HoldsNumber bytes place n number
holds_list bytes place n number z is same = record {
  digits = λ i low.
      sym (window_bit network bytes place n i (lit< tt) low)
      ∙ ap (λ xs. get_or xs i false) same
      ∙ get_or-bits_in_order (λ i. n - 1 - i) n (low_digits n z) i false low
      ∙ ap (λ d. digit_at d (n - 1 - i)) is;
}

pub holds_beside : (before after : List ℕ) (place n number other m : ℕ) → (place + n ≤ other) ⊎ (other + m ≤ place)
    → KeepsBeside network before after other m → HoldsNumber before place n number
    → HoldsNumber after place n number
holds_beside before after place n number other m apart is held = record {
  digits = λ i low. elim apart [
    | inl ahead ↦ is.below (place + i) (omega arith) ∙ held.digits i low
    | inr behind ↦ is.above (place + i) (omega arith) ∙ held.digits i low
  ];
}

pub holds_join : (bytes : List ℕ) (place next n m first second : ℕ) → next ≡ place + n → second < 2 ^ m
    → HoldsNumber bytes place n first → HoldsNumber bytes next m second
    → HoldsNumber bytes place (n + m) (first * 2 ^ m + second)
holds_join bytes place next n m first second is_next small held then = record {
  digits = λ i low. elim (cases_lt i n) [
    | inl front ↦
        let j : ℕ = n + m - 1 - i in
        let at : j - m ≡ n - 1 - i = omega arith in
        held.digits i front
        ∙ ap (λ d. d == 1) (ap (bit_at first) (sym at) ∙ sym (bit_at_cat_high first m second j small (omega arith)))
    | inr back ↦
        let k : ℕ = i - n in
        let here : next + k ≡ place + i = omega arith in
        let j : ℕ = n + m - 1 - i in
        let at : j ≡ m - 1 - k = omega arith in
        ap (entry network bytes) (sym here)
        ∙ then.digits k (omega arith)
        ∙ ap (λ d. d == 1) (ap (bit_at second) (sym at) ∙ sym (bit_at_cat_low first m second j (omega arith)))
  ];
}

-- ---- all bytes

-- a digit of a byte of a number
byte_digit : (number a p : ℕ) → p < 8 → bit_at (number / 2 ^ a % 2 ^ 8) p ≡ bit_at number (a + p)
byte_digit number a p low =
    low_digit 8 p (number / 2 ^ a) low
    ∙ ap (λ y. y % 2) (div-div-eq-div-mul number (2 ^ a) (2 ^ p) ∙ ap (λ m. number / m) (sym (pow-add 2 a p)))

-- the byte that has digits of a number
held_byte : (bytes : List ℕ) (number k p : ℕ) → length bytes ≡ 8 → k < 8 → p < 8 → get_or bytes k 0 < 2 ^ 8
    → HoldsNumber bytes 0 64 number → digit_at (get_or bytes k 0) p ≡ digit_at number (8 * (7 - k) + p)
held_byte bytes number k p size low in_byte small held =
    let byte : ℕ = get_or bytes k 0 in
    let i : ℕ = 7 - p in
    let back : 8 - 1 - i ≡ p = omega arith in
    let there : 0 + (k * 8 + i) ≡ k * 8 + i = omega arith in
    let weighs : 64 - 1 - (k * 8 + i) ≡ 8 * (7 - k) + p = omega arith in
    let value : byte % 2 ^ 8 ≡ byte = mod-eq_of_lt small in
    ap (λ d. digit_at d p) (sym value)
    ∙ ap (digit_at (byte % 2 ^ 8)) (sym back)
    ∙ sym (entry_at network bytes k i 0 (omega arith) (omega arith))
    ∙ ap (entry network bytes) (sym there)
    ∙ held.digits (k * 8 + i) (omega arith)
    ∙ ap (digit_at number) weighs

pub holds_bytes : (bytes : List ℕ) (number : ℕ) → length bytes ≡ 8 → ((k : ℕ) → k < 8 → get_or bytes k 0 < 2 ^ 8)
    → HoldsNumber bytes 0 64 number → bytes ≡ bytes_of number
holds_bytes bytes number size small held =
    let byte = λ (k : ℕ). number / 2 ^ (8 * (7 - k)) % 2 ^ 8 in
    ext_get_or 0 bytes (bytes_of number) (size ∙ sym (length-map-range_with_len byte 0 8)) (λ k h.
    let low : k < 8 = omega arith in
    same_from_bits_below 8 (get_or bytes k 0) (byte k) (small k low)
    (mod-lt (number / 2 ^ (8 * (7 - k))) {m = 2 ^ 8} (pow_pos 8)) (λ p in_byte.
    same_digit (bit_at (get_or bytes k 0) p) (bit_at (byte k) p) (bit_at-lt (get_or bytes k 0) p) (bit_at-lt (byte k) p)
    (held_byte bytes number k p size low in_byte (small k low) held
    ∙ ap (λ d. d == 1) (sym (byte_digit number (8 * (7 - k)) p in_byte))))
    ∙ sym (get_or-map-range_with_len byte 0 8 k k 0 low (omega arith)))

-- bytes tell their number
same_number : (first second : ℕ) → first < 2 ^ 64 → second < 2 ^ 64 → bytes_of first ≡ bytes_of second
    → first ≡ second
same_number first second small_first small_second same =
    same_from_bits_below 64 first second small_first small_second (λ j low.
    let k : ℕ = 7 - j / 8 in
    let p : ℕ = j % 8 in
    let in_byte : p < 8 = omega arith in
    let at : 8 * (7 - k) + p ≡ j = omega arith in
    let in_bytes : k < 8 = omega arith in
    let byte = λ (number i : ℕ). number / 2 ^ (8 * (7 - i)) % 2 ^ 8 in
    let equal : byte first k ≡ byte second k =
    sym (get_or-map-range_with_len (byte first) 0 8 k k 0 in_bytes (omega arith))
    ∙ ap (λ xs. get_or xs k 0) same
    ∙ get_or-map-range_with_len (byte second) 0 8 k k 0 in_bytes (omega arith) in
    ap (bit_at first) (sym at)
    ∙ sym (byte_digit first (8 * (7 - k)) p in_byte)
    ∙ ap (λ b. bit_at b p) equal
    ∙ byte_digit second (8 * (7 - k)) p in_byte
    ∙ ap (bit_at second) at)

-- ---- headers

-- what four fields make
pub header_held : (bytes : List ℕ) (version length_ id sequence : ℕ) → length_ < 2 ^ 12 → id < 2 ^ 16
    → sequence < 2 ^ 32 → HoldsNumber bytes 0 4 version → HoldsNumber bytes 4 12 length_
    → HoldsNumber bytes 16 16 id → HoldsNumber bytes 32 32 sequence
    → HoldsNumber bytes 0 64 (header_number version length_ id sequence)
header_held bytes version length_ id sequence few_length few_id few_sequence one two three four =
    holds_join bytes 0 32 32 32 ((version * 2 ^ 12 + length_) * 2 ^ 16 + id) sequence refl few_sequence
    (holds_join bytes 0 16 16 16 (version * 2 ^ 12 + length_) id refl few_id
    (holds_join bytes 0 4 4 12 version length_ refl few_length one two) three) four

number_fits : (version length_ id sequence : ℕ) → version < 2 ^ 4 → length_ < 2 ^ 12 → id < 2 ^ 16
    → sequence < 2 ^ 32 → header_number version length_ id sequence < 2 ^ 64
number_fits version length_ id sequence few_version few_length few_id few_sequence = omega arith

-- bytes tell the fields
pub same_header : (version length_ id sequence other_version other_length other_id other_sequence : ℕ)
    → version < 2 ^ 4 → length_ < 2 ^ 12 → id < 2 ^ 16 → sequence < 2 ^ 32
    → other_version < 2 ^ 4 → other_length < 2 ^ 12 → other_id < 2 ^ 16 → other_sequence < 2 ^ 32
    → header_bytes version length_ id sequence
    ≡ header_bytes other_version other_length other_id other_sequence
    → (version ≡ other_version) × (length_ ≡ other_length) × (id ≡ other_id) × (sequence ≡ other_sequence)
same_header version length_ id sequence other_version other_length other_id other_sequence a b c d e f g h same =
    let number : header_number version length_ id sequence
    ≡ header_number other_version other_length other_id other_sequence =
    same_number (header_number version length_ id sequence)
    (header_number other_version other_length other_id other_sequence)
    (number_fits version length_ id sequence a b c d)
    (number_fits other_version other_length other_id other_sequence e f g h) same in
    (omega arith, omega arith, omega arith, omega arith)

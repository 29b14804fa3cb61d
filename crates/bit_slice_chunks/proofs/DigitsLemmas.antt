-- Numbers and the chunks that hold their digits.
--
-- Read: `digits_read`. Written: `holds_up`, `holds_down`.
use Rattle.bit_addressing_memory.proofs.Common.{◌≡◌, ℕ, ◌+◌, ◌-◌, ◌*◌, ◌/◌, ◌%◌, ◌^◌, ◌==◌, ◌<◌, ◌≤◌, List}
use Rattle.bit_addressing_memory.proofs.Common.{refl, sym, ap, ◌∙◌, inl, inr, arith, cases_lt, Reading, entry, reading_in, length, get_or}
use Rattle.std.specs.Int.{bit_at}
use Rattle.std.proofs.Math.Pow.{pow_pos}
use Rattle.std.proofs.lemmas.Nat.Bits.{bit_at_above, same_from_bits_below}
use Rattle.bit_addressing_memory.specs.Bits.{digit_at}
use Rattle.bit_addressing_memory.proofs.ShiftLemmas.{bit_at_shr, bit_at_cut, bit_at_shl_high}
use Rattle.bit_addressing_memory.proofs.LimbLemmas.{no_digit}
use Rattle.bit_addressing_memory.specs.declared.direction.Direction.{Direction}
use Rattle.bit_addressing_memory.specs.declared.direction.Direction.TheVariants.{Ascending, Descending}
use Rattle.bit_addressing_memory.specs.Straight.{straight, Goes}
use Rattle.bit_addressing_memory.proofs.EntryLemmas.{entry_read}
use Rattle.bit_addressing_memory.specs.Chunk.{digits_in, HoldsDigits, IsChunk, IsCut, IsPart, ReadsDigits}

-- no digit from m on
small_from_digits : (n m : ℕ) → n < 2 ^ 64 → m ≤ 64 → ((i : ℕ) → m ≤ i → i < 64 → bit_at n i ≡ 0) → n < 2 ^ m
small_from_digits n m fits narrow none =
    let cut : n % 2 ^ m < 2 ^ m = omega (arith, pow_pos m) in
    let same : n ≡ n % 2 ^ m =
    same_from_bits_below 64 n (n % 2 ^ m) fits (omega arith) (λ i small. elim (cases_lt i m) [
      | inl low ↦ sym (bit_at_cut n m i low)
      | inr high ↦ none i high small ∙ sym (bit_at_above (n % 2 ^ m) m i cut high)
    ]) in
    omega arith

-- the digits of a chunk of a memory
pub digits_read : {R : Type 0} (direction : Direction) (reading : Reading R) (words : List R) (place n chunk : ℕ)
    → 0 < n → n ≤ 64 → chunk < 2 ^ 64 → IsChunk reading words place n direction chunk
    → ReadsDigits reading words place n direction (digits_in direction n chunk)
digits_read Ascending reading words place n chunk any few fits is = record {
  digits = is.inside;
  small = small_from_digits chunk n fits few (λ i high small. no_digit chunk i (is.past i high small));
}
digits_read Descending reading words place n chunk any few fits is = record {
  digits = λ i low.
      let digit : n - 1 - i + (64 - n) ≡ 64 - 1 - i = omega arith in
      ap (λ x. x == 1) (bit_at_shr chunk (64 - n) (n - 1 - i) ∙ ap (bit_at chunk) digit) ∙ is.inside i low;
  small =
      small_from_digits (chunk / 2 ^ (64 - n)) n (omega arith) few (λ i high small.
      bit_at_shr chunk (64 - n) i ∙ bit_at_above chunk 64 (i + (64 - n)) fits (omega arith));
}

-- those of a part of a word
pub digits_in_word : {R : Type 0} (b : ℕ) (number : R → ℕ) (at : ℕ → ℕ) (direction : Direction) → Goes b at direction
    → (words : List R) (word from n below chunk d : ℕ) (x : R) → 0 < n → n ≤ 64 → from + n ≤ b → d < 2 ^ 64
    → below + straight n direction 0 ≡ straight b direction from
    → IsPart (reading_in b number (λ i. i)) x below b Ascending chunk → IsCut Ascending chunk n d → word < length words
    → x ≡ get_or words word x → ReadsDigits (reading_in b number at) words (word * b + from) n direction d
digits_in_word b number at Ascending goes words word from n below chunk d x any few within fits starts is cut low read = record {
  digits = λ i inside.
      let here : word * b + (from + i) ≡ word * b + from + i = omega arith in
      let digit : below + i ≡ from + i = omega arith in
      cut.inside i inside
      ∙ is.inside i (omega arith) (omega arith)
      ∙ ap (digit_at (number x)) (digit ∙ sym (goes (from + i) (omega arith)))
      ∙ entry_read (reading_in b number at) words word (from + i) x (omega arith) low read
      ∙ ap (entry (reading_in b number at) words) here;
  small = small_from_digits d n fits few (λ i high small. no_digit d i (cut.past i high small));
}
digits_in_word b number at Descending goes words word from n below chunk d x any few within fits starts is cut low read = record {
  digits = λ i inside.
      let here : word * b + (from + i) ≡ word * b + from + i = omega arith in
      let digit : below + (n - 1 - i) ≡ b - 1 - (from + i) = omega arith in
      cut.inside (n - 1 - i) (omega arith)
      ∙ is.inside (n - 1 - i) (omega arith) (omega arith)
      ∙ ap (digit_at (number x)) (digit ∙ sym (goes (from + i) (omega arith)))
      ∙ entry_read (reading_in b number at) words word (from + i) x (omega arith) low read
      ∙ ap (entry (reading_in b number at) words) here;
  small = small_from_digits d n fits few (λ i high small. no_digit d i (cut.past i high small));
}

-- a chunk of n digits of a number
pub holds_up : (d n : ℕ) → HoldsDigits Ascending d n d
holds_up d n i low = refl

pub holds_down : (d n r : ℕ) → n ≤ 64 → r ≡ d * 2 ^ (64 - n) % 2 ^ 64 → HoldsDigits Descending d n r
holds_down d n r few made i low =
    let at : 64 - 1 - i - (64 - n) ≡ n - 1 - i = omega arith in
    ap (λ y. y == 1) (ap (λ y. bit_at y (64 - 1 - i)) made
    ∙ bit_at_cut (d * 2 ^ (64 - n)) 64 (64 - 1 - i) (omega arith)
    ∙ bit_at_shl_high d (64 - n) (64 - 1 - i) (omega arith)
    ∙ ap (bit_at d) at)

-- Words of digits, digit by digit.
use Rattle.std.proofs.Common.{◌≡◌, ℕ, ◌+◌, ◌-◌, ◌*◌, ◌<◌, ◌≤◌, min, eqb, true, false, IsTrue, List, [], ◌∷◌, map}
use Rattle.std.proofs.Common.{length, take, get_or, arith, inl, inr}
use Rattle.std.specs.List.{list_all}
use Rattle.std.specs.Char.{is_ascii_digit, digit_value}
use Rattle.std.proofs.lemmas.Bool.{cases_Bool, false≢true}
use Rattle.std.proofs.lemmas.Bool.Decides.{nat_tests}
use Rattle.std.proofs.lemmas.List.Folds.{list_all_at}
use Rattle.std.proofs.lemmas.Str.{digit_value_digit}
use Rattle.std.proofs.lemmas.Int.Digits.{digits_value_more, digits_value_is, number_after_ge}
use Rattle.bit_table_layout.specs.Numerals.{is_number, number_of}

-- a word with a byte is a number if each byte is a digit
pub is_number-from_bytes : (word : List ℕ) → false ≡ eqb (length word) 0
    → list_all is_ascii_digit word ≡ is_number word
is_number-from_bytes word some = grind (arith, nat_tests)

-- each byte of a number is a digit
pub digit-at : (word : List ℕ) (i : ℕ) → IsTrue (is_number word) → i < length word
    → is_ascii_digit (get_or word i 0) ≡ true
digit-at word i number lt =
    elim (cases_Bool (is_ascii_digit (get_or word i 0))) [
      | inl is ↦ is
      | inr not' ↦
          let none = list_all_at is_ascii_digit word i 0 lt not' in
          absurd (false≢true (grind (arith, nat_tests)))
    ]

-- a digit's value is its byte less 48
pub digit_value-of : (b : ℕ) → is_ascii_digit b ≡ true → digit_value b ≡ b - 48
digit_value-of b digit =
    let value = digit_value_digit b (grind (arith, nat_tests)) in
    omega arith

-- one more digit, where numbers past `most` count as `most`, and sums and products stop at `top`
pub number-more : (word : List ℕ) (top most number i : ℕ) → IsTrue (is_number word) → most ≤ top → i < length word
    → number ≡ min (number_of (take i word)) most
    → min most (min (min (number * 10) top + (get_or word i 0 - 48)) top)
    ≡ min (number_of (take (i + 1) word)) most
number-more word top most number i digits below lt so_far =
    let value = digit_value-of (get_or word i 0) (digit-at word i digits lt) in
    let more = digits_value_more 10 word i lt in
    omega arith

-- digits whose first is none of zero spell a number past zero
pub number-positive : (digits : List ℕ) → is_number digits ≡ true → (get_or digits 0 0 ≡ 48 → ⊥)
    → 1 ≤ number_of digits
number-positive [] number first = absurd (false≢true number)
number-positive (d ∷ ds) number first =
    let digit = digit-at (d ∷ ds) 0 number (omega arith) in
    let value = digit_value-of d digit in
    let range : 48 ≤ d = grind (arith, nat_tests) in
    let grows = number_after_ge 10 (0 * 10 + digit_value d) (map digit_value ds) (omega arith) in
    let same = digits_value_is 10 (d ∷ ds) in
    omega arith

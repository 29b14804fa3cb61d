-- Whole words combined with others, and compared with others.
--
-- One word more: `merges_more`, `compares_more`. `alike_digit`: a digit of words that are alike. `same_words_more`,
-- `same_words_part`: more words with the same bits, and some of them.
use Rattle.bit_addressing_memory.proofs.Common.{◌≡◌, ℕ, ◌+◌, ◌-◌, ◌*◌, ◌^◌, ◌<◌, ◌≤◌, Bool, List, Option, length}
use Rattle.bit_addressing_memory.proofs.Common.{get_or, set, bit_or, bit_xor, refl, sym, ap, ap₂, ◌∙◌, inl, inr, arith}
use Rattle.bit_addressing_memory.proofs.Common.{cases_lt, Reading, entry, indexed, reading_in, Overwrites, IsStored}
use Rattle.std.proofs.Math.Nat.{mul-le-mul_right}
use Rattle.std.proofs.lemmas.List.{get_or_default}
use Rattle.std.proofs.lemmas.Nat.Bits.{bit_at_or, bit_at_xor, bit_at-zero, bit_at-lt, same_from_bits}
use Rattle.std.specs.Int.{bit_at}
use Rattle.bit_addressing_memory.specs.Bits.{digit_at}
use Rattle.bit_addressing_memory.specs.BitOrder.{IsLawful}
use Rattle.bit_addressing_memory.proofs.EntryLemmas.{entry_read}
use Rattle.bit_addressing_memory.proofs.OverwriteLemmas.{overwrites_join}
use Rattle.bit_addressing_memory.proofs.PartsLemmas.{stores_part, stores_as}
use Rattle.bit_addressing_memory.proofs.OrderCallerLemmas.{same_word}
use Rattle.bit_slice_paths.specs.WholeWords.{IsAlike, Merges, Compares}

-- ---- a word put

puts_word : {R : Type 0} (reading : Reading R) (words : List R) (j place : ℕ) (w : R) (now : ℕ → Bool)
    → j < length words → 0 < reading.bits → place ≡ j * reading.bits
    → ((i : ℕ) → i < reading.bits → reading.digit w i ≡ now i)
    → Overwrites reading words (set words j w) place reading.bits now
puts_word reading words j place w now within some at is =
    let x = get_or words j w in
    let read : x ≡ get_or words j x = get_or_default words j w x within in
    let stored : IsStored reading x w 0 reading.bits now = record {
      inside = λ i _ small _. is i small;
      below = λ i none _. absurd (omega arith);
      above = λ i past small. absurd (omega arith);
    } in
    let wrote = stores_part reading words j x w 0 reading.bits now within read (omega arith) (omega arith) some stored in
    let here : j * reading.bits + 0 ≡ place = omega arith in
    let count : reading.bits - 0 ≡ reading.bits = omega arith in
    stores_as reading words (set words j w) place reading.bits (λ k. now (0 + k)) now (rw (here, count) at wrote)
    (λ k low. let index : 0 + k ≡ k = omega arith in ap now index)

-- the digits of two words that hold the same number, where words are alike
pub alike_digit : (b : ℕ) (at : ℕ → ℕ) (c : ℕ) (its : ℕ → ℕ) (n m i : ℕ) → IsAlike b at c its → i < b → n ≡ m
    → digit_at n (at i) ≡ digit_at m (its i)
alike_digit b at c its n m i alike low same =
    ap (λ x. digit_at x (at i)) same ∙ ap (digit_at m) (sym (alike.positions i low))

-- ---- digits that differ

or_none : (a c : ℕ) → bit_or a c ≡ 0 → (a ≡ 0) × (c ≡ 0)
or_none a c none = (
  same_from_bits a 0 (λ i. let e = ap (λ n. bit_at n i) none in omega (arith, bit_at_or a c i, e, bit_at-zero i)),
  same_from_bits c 0 (λ i. let e = ap (λ n. bit_at n i) none in omega (arith, bit_at_or a c i, e, bit_at-zero i)),
)

or_of_none : (a c : ℕ) → a ≡ 0 → c ≡ 0 → bit_or a c ≡ 0
or_of_none a c e1 e2 = rw (e1, e2) refl

xor_none : (a c : ℕ) → bit_xor a c ≡ 0 → a ≡ c
xor_none a c none = same_from_bits a c (λ i.
    let e = ap (λ n. bit_at n i) none in
    omega (arith, bit_at_xor a c i, e, bit_at-zero i, bit_at-lt a i, bit_at-lt c i))

xor_of_same : (a c : ℕ) → a ≡ c → bit_xor a c ≡ 0
xor_of_same a c same = rw same (same_from_bits (bit_xor c c) 0 (λ i. omega (arith, bit_at_xor c c i, bit_at-zero i)))

-- ---- one word more

pub merges_more : {R : Type 0} (b : ℕ) (number : R → ℕ) (at : ℕ → ℕ) (how : Bool → Bool → Bool) (before mid : List R)
    (first first_mid lender lender_mid k j : ℕ) (x its w : R) (bits : ℕ → Bool) → 0 < b → j ≡ first_mid + k
    → j < length mid → x ≡ get_or mid j x
    → ((i : ℕ) → i < b → indexed number at its i ≡ bits (k * b + i))
    → ((p : ℕ) → digit_at (number w) p ≡ how (digit_at (number x) p) (digit_at (number its) p))
    → Merges (reading_in b number at) how before mid first first_mid lender lender_mid (k * b) bits
    → Merges (reading_in b number at) how before (set mid j w) first first_mid lender lender_mid ((k + 1) * b) bits
merges_more b number at how before mid first first_mid lender lender_mid k j x its w bits some is_j within read theirs
    made had =
    let reading = reading_in b number at in
    let here : j ≡ first + k = omega (arith, had.same_first) in
    let row : j * b ≡ first * b + k * b = rw here (omega arith) in
    let then = λ (i : ℕ). how (entry reading before (first * b + (k * b + i))) (bits (k * b + i)) in
    record {
      wrote =
          overwrites_join reading before mid (set mid j w) (first * b) (k * b) (first * b + k * b) b ((k + 1) * b)
          (λ i. how (entry reading before (first * b + i)) (bits i)) then refl (omega arith) (λ i low. refl) had.wrote
          (puts_word reading mid j (first * b + k * b) w then within some (sym row)
          (λ i low.
          let there : j * b + i ≡ first * b + (k * b + i) = omega arith in
          made (at i)
          ∙ ap₂ how (entry_read reading mid j i x low within read
          ∙ ap (entry reading mid) there
          ∙ had.wrote.above (first * b + (k * b + i)) (omega arith))
          (theirs i low)));
      same_first = had.same_first;
      same_lender = had.same_lender;
    }

pub compares_more : {R : Type 0} (b : ℕ) (number : R → ℕ) (at select : ℕ → ℕ) (mask : Option ℕ → Option ℕ → ℕ)
    (words words_mid : List R) (first first_mid differ differ_mid k j : ℕ) (x its : R) (diff all : ℕ) (bits : ℕ → Bool)
    → IsLawful b at select mask → number x < 2 ^ b → number its < 2 ^ b → j ≡ first_mid + k
    → j < length words_mid → x ≡ get_or words_mid j x
    → ((i : ℕ) → i < b → indexed number at its i ≡ bits (k * b + i))
    → diff ≡ bit_xor (number x) (number its) → all ≡ bit_or differ_mid diff
    → Compares (reading_in b number at) words words_mid first first_mid differ differ_mid (k * b) bits
    → Compares (reading_in b number at) words words_mid first first_mid differ all ((k + 1) * b) bits
compares_more b number at select mask words words_mid first first_mid differ differ_mid k j x its diff all bits law fits
    its_fits is_j within read theirs is_diff is_all had =
    let reading = reading_in b number at in
    let here : j ≡ first + k = omega (arith, had.same_first) in
    let row : j * b ≡ first * b + k * b = rw here (omega arith) in
    let mine = λ (i : ℕ) (low : i < b).
    let there : j * b + i ≡ first * b + (k * b + i) = omega arith in
    entry_read reading words_mid j i x low within read
    ∙ ap (λ ws. entry reading ws (j * b + i)) had.same_words
    ∙ ap (entry reading words) there in
    record {
      same_words = had.same_words;
      same_first = had.same_first;
      answer = (
        λ none.
            let both = or_none differ_mid diff (sym is_all ∙ none) in
            let old = had.answer.0 both.0 in
            let equal = xor_none (number x) (number its) (sym is_diff ∙ both.1) in (
              old.0,
              λ i low. elim (cases_lt i (k * b)) [
                | inl before ↦ old.1 i before
                | inr after ↦
                    let q : ℕ = i - k * b in
                    let small : q < b = omega arith in
                    let back : k * b + q ≡ i = omega arith in
                    let same : indexed number at x q ≡ indexed number at its q = ap (λ n. digit_at n (at q)) equal in
                    ap (λ p. entry reading words (first * b + p)) (sym back)
                    ∙ sym (mine q small)
                    ∙ same
                    ∙ theirs q small
                    ∙ ap bits back
              ],
            ),
        λ both.
            let old = had.answer.1 (both.0, λ i low. both.1 i (omega arith)) in
            let equal =
            same_word b at select mask (number x) (number its) law fits its_fits
            (λ i low. mine i low ∙ both.1 (k * b + i) (omega arith) ∙ sym (theirs i low)) in
            is_all ∙ or_of_none differ_mid diff old (is_diff ∙ xor_of_same (number x) (number its) equal),
      );
    }

-- ---- words with the same bits

-- m more words
pub same_words_more : (mine bits : ℕ → Bool) (b first n m all : ℕ) → all ≡ n + m
    → ((k : ℕ) → k < n * b → mine (first * b + k) ≡ bits k)
    → ((k : ℕ) → k < m * b → mine ((first + n) * b + k) ≡ bits (n * b + k))
    → (k : ℕ) → k < all * b → mine (first * b + k) ≡ bits k
same_words_more mine bits b first n m all sum had more k low = elim (cases_lt k (n * b)) [
  | inl before ↦ had k before
  | inr after ↦
      let i : ℕ = k - n * b in
      let there : n * b + i ≡ k = omega arith in
      let here : (first + n) * b + i ≡ first * b + k = omega arith in
      let small : i < m * b = let wide : all * b ≡ n * b + m * b = rw sum (omega arith) in omega arith in
      ap mine (sym here) ∙ more i small ∙ ap bits there
]

-- m of all words, those behind n others
pub same_words_part : (mine bits : ℕ → Bool) (b first n m all : ℕ) → n + m ≤ all
    → ((k : ℕ) → k < all * b → mine (first * b + k) ≡ bits k)
    → (k : ℕ) → k < m * b → mine ((first + n) * b + k) ≡ bits (n * b + k)
same_words_part mine bits b first n m all inside same k low =
    let wide : (n + m) * b ≤ all * b = mul-le-mul_right b inside in
    let here : (first + n) * b + k ≡ first * b + (n * b + k) = omega arith in
    ap mine here ∙ same (n * b + k) (omega arith)

-- The masked words that a domain gives, as numbers: each has the digits of its word of the memory, inside the span.
--
-- One word: `one_word`, `part_reads`, `whole_reads`; by other names `reads_as`. All words of a cut: `region_reads`.
-- From a word of a memory on: `entry-drop`, `masked_from_word`.
use Rattle.std.proofs.Common.{◌≡◌, ℕ, zero, suc, ◌+◌, ◌-◌, ◌*◌, ◌<◌, ◌≤◌, min, bit_and, Option}
use Rattle.std.proofs.Common.{List, [], ◌∷◌, ◌++◌, length, map, take, drop, get_or, refl, sym, ap, ◌∙◌, inl, inr, arith}
use Rattle.std.proofs.lemmas.Bool.{cases_eq, cases_lt}
use Rattle.std.proofs.lemmas.List.{get_or-map, get_or_append_left, get_or-append_right, drop-map, length-append}
use Rattle.std.proofs.lemmas.List.{places}
use Rattle.std.proofs.Math.Nat.{mul-le-mul_right}
use Rattle.std.proofs.lemmas.Nat.{div-mul-add, mod-mul-add}
use Rattle.bit_addressing_memory.specs.Bits.{digit_at}
use Rattle.bit_addressing_memory.specs.BitOrder.{IsLawful}
use Rattle.bit_addressing_memory.specs.Memory.{Reading, entry, reading_in, touched}
use Rattle.bit_addressing_memory.proofs.EntryLemmas.{entry_read}
use Rattle.bit_addressing_memory.specs.Partial.{part_mask}
use Rattle.bit_addressing_span.specs.Parts.{AreMasked}
use Rattle.bit_addressing_memory.specs.Partial.{ReadsDigits}
use Rattle.bit_addressing_span.specs.Span.{extent}
use Rattle.bit_addressing_memory.proofs.PartialLemmas.{masked_digits}

-- a word of the list, and the list of it alone
pub one_word : {R : Type 0} (words : List R) (j : ℕ) → j < length words
    → (x : R) × (take 1 (drop j words) ≡ x ∷ []) × (x ≡ get_or words j x)
one_word [] j within = absurd (omega arith)
one_word (x ∷ xs) zero within = (x, refl, refl)
one_word (y ∷ xs) (suc j) within =
    let found = one_word xs j (omega arith) in
    (found.0, found.1, found.2)

-- the same, by other names
pub reads_as : {R : Type 0} (reading : Reading R) (at : ℕ → ℕ) (words : List R) (j j' n n' from from' upto upto' : ℕ)
    → j ≡ j' → n ≡ n' → from ≡ from' → upto ≡ upto'
    → ReadsDigits reading words j (λ i. digit_at n (at i)) from upto
    → ReadsDigits reading words j' (λ i. digit_at n' (at i)) from' upto'
reads_as reading at words j j' n n' from from' upto upto' is_j is_n is_from is_upto reads =
    rw (is_j, is_n, is_from, is_upto) at reads

-- a word and a mask
pub part_reads : {R : Type 0} (b : ℕ) (number : R → ℕ) (at select : ℕ → ℕ) (mask : Option ℕ → Option ℕ → ℕ)
    (words : List R) (j : ℕ) (x : R) (from upto : ℕ) → IsLawful b at select mask → from < b → from ≤ upto → upto ≤ b
    → j < length words → x ≡ get_or words j x
    → ReadsDigits (reading_in b number at) words j
    (λ i. digit_at (bit_and (number x) (part_mask mask from upto)) (at i)) from upto
part_reads b number at select mask words j x from upto law index order within inside is =
    let masked = masked_digits b (λ (n : ℕ). n) at select mask (number x)
    (bit_and (number x) (part_mask mask from upto)) from upto law index order within refl in
    record {
      inside = λ i low high small.
          masked.inside i low high small ∙ entry_read (reading_in b number at) words j i x small inside is;
      below = masked.below;
      above = masked.above;
    }

-- a whole word, of some words from one on
pub whole_reads : {R : Type 0} (b : ℕ) (number : R → ℕ) (at : ℕ → ℕ) (words : List R) (first n k : ℕ)
    → first + n ≤ length words → k < n
    → ReadsDigits (reading_in b number at) words (first + k)
    (λ i. digit_at (get_or (map number (take n (drop first words))) k 0) (at i)) 0 b
whole_reads b number at words first n k within low =
    let found = one_word words (first + k) (omega arith) in
    let x = found.0 in
    let count : k < length (take n (drop first words)) = search (arith, places) in
    let same : get_or (take n (drop first words)) k x ≡ get_or words (first + k) x = search (arith, places) in
    let is : get_or (map number (take n (drop first words))) k 0 ≡ number x =
    get_or-map number (take n (drop first words)) k x 0 count ∙ ap number (same ∙ sym found.2) in
    record {
      inside = λ i _ _ small.
          ap (λ m. digit_at m (at i)) is
          ∙ entry_read (reading_in b number at) words (first + k) i x small (omega arith) found.2;
      below = λ i none small. absurd (omega arith);
      above = λ i past small. absurd (omega arith);
    }

-- a part of the first word, where there is one, whole words, and a part of the last one, where there is one
pub region_reads : {R : Type 0} (reading : Reading R) (at : ℕ → ℕ) (words : List R) (head len last upto first : ℕ)
    (heads body tails : List ℕ) → head < reading.bits → first ≤ 1 → first ≤ last → (first ≡ 0 → head ≡ 0)
    → last * reading.bits + upto ≡ head + len → upto < reading.bits
    → touched reading.bits head len ≡ last + min 1 upto
    → length heads ≡ first → length body ≡ last - first → length tails ≡ min 1 upto
    → (0 < first → ReadsDigits reading words 0 (λ i. digit_at (get_or heads 0 0) (at i)) head reading.bits)
    → ((k : ℕ) → first ≤ k → k < last
    → ReadsDigits reading words k (λ i. digit_at (get_or body (k - first) 0) (at i)) 0 reading.bits)
    → (0 < upto → ReadsDigits reading words last (λ i. digit_at (get_or tails 0 0) (at i)) 0 upto)
    → AreMasked reading at words (extent 0 head len) (heads ++ body ++ tails)
region_reads reading at words head len last upto first heads body tails low few order edge place short count is_heads
    is_body is_tails in_head in_body in_tail k within =
    let b : ℕ = reading.bits in
    let front : length (heads ++ body) ≡ last = omega (arith, length-append heads body) in
    let begun : 0 < first → b ≤ last * b =
    λ some. omega (arith, mul-le-mul_right b (one_at_least last (omega arith))) in
    elim (cases_lt k first) [
      | inl early ↦
          let is_k : k ≡ 0 = omega arith in
          let none : k * b ≡ 0 = ap (λ q. q * b) is_k ∙ omega arith in
          let full : b ≤ last * b = begun (omega arith) in
          let number : get_or heads 0 0 ≡ get_or (heads ++ body ++ tails) k 0 =
          sym (get_or_append_left (heads ++ body) tails 0 k (omega arith)
          ∙ get_or_append_left heads body 0 k (omega arith)
          ∙ ap (λ q. get_or heads q 0) is_k) in
          reads_as reading at words 0 (0 + k) (get_or heads 0 0) (get_or (heads ++ body ++ tails) k 0)
          head (head - k * b) b (min (head + len - k * b) b) (omega arith) number (omega arith) (omega arith)
          (in_head (omega arith))
      | inr late ↦ elim (cases_lt k last) [
        | inl inside ↦
            let next : (k + 1) * b ≤ last * b = mul-le-mul_right b (one_more k last inside) in
            let past : 0 ≡ head - k * b = elim (cases_eq first 0) [
              | inl none ↦ let start = edge none in omega arith
              | inr some ↦
                  let one : 1 * b ≤ k * b = mul-le-mul_right b (one_at_least k (omega arith)) in
                  omega arith
            ] in
            let number : get_or body (k - first) 0 ≡ get_or (heads ++ body ++ tails) k 0 =
            sym (get_or_append_left (heads ++ body) tails 0 k (omega arith)
            ∙ get_or-append_right heads body first k 0 is_heads late) in
            reads_as reading at words k (0 + k) (get_or body (k - first) 0) (get_or (heads ++ body ++ tails) k 0)
            0 (head - k * b) b (min (head + len - k * b) b) (omega arith) number past (omega arith)
            (in_body k late inside)
        | inr end ↦
            let is_k : k ≡ last = omega arith in
            let same : k * b ≡ last * b = ap (λ q. q * b) is_k in
            let past : 0 ≡ head - k * b = elim (cases_eq first 0) [
              | inl none ↦ let start = edge none in omega arith
              | inr some ↦ let full : b ≤ last * b = begun (omega arith) in omega arith
            ] in
            let number : get_or tails 0 0 ≡ get_or (heads ++ body ++ tails) k 0 =
            sym (get_or-append_right (heads ++ body) tails last k 0 front end
            ∙ ap (λ q. get_or tails q 0) (nothing_left k last is_k)) in
            reads_as reading at words last (0 + k) (get_or tails 0 0) (get_or (heads ++ body ++ tails) k 0)
            0 (head - k * b) upto (min (head + len - k * b) b) (omega arith) number past (omega arith)
            (in_tail (omega arith))
      ]
    ]
  where
    one_at_least : (n : ℕ) → 0 < n → 1 ≤ n
    one_at_least n some = omega arith

    one_more : (k n : ℕ) → k < n → k + 1 ≤ n
    one_more k n low = omega arith

    nothing_left : (k n : ℕ) → k ≡ n → k - n ≡ 0
    nothing_left k n same = omega arith

-- an entry of the words from one on
pub entry-drop : {R : Type 0} (reading : Reading R) (words : List R) (w j i : ℕ) → i < reading.bits
    → entry reading (drop w words) (j * reading.bits + i) ≡ entry reading words ((w + j) * reading.bits + i)
unfolding entry
entry-drop reading words w j i low =
    let b : ℕ = reading.bits in
    rw (
      div-mul-add j b i low,
      mod-mul-add j b i low,
      div-mul-add (w + j) b i low,
      mod-mul-add (w + j) b i low,
      ← drop-map (λ x. reading.digit x i) w words,
    ) (search (arith, places))

-- masked words of the words from one on are those of a span that begins there
pub masked_from_word : {R : Type 0} (reading : Reading R) (at : ℕ → ℕ) (words : List R) (word head len : ℕ)
    (numbers : List ℕ) → AreMasked reading at (drop word words) (extent 0 head len) numbers
    → AreMasked reading at words (extent word head len) numbers
masked_from_word reading at words word head len numbers are k within =
    let part = are k within in
    let there : word + (0 + k) ≡ word + k = omega arith in
    record {
      inside = λ i low high small.
          part.inside i low high small
          ∙ entry-drop reading words word (0 + k) i small
          ∙ ap (λ j. entry reading words (j * reading.bits + i)) there;
      below = part.below;
      above = part.above;
    }

-- The parts of a span, a word each: where they lie, and a word of a memory read and written in its part.
--
-- `part_start`: where a part lies. `reads_part`, `stores_part`: one word read, and written back; `stores_whole`: written.
use Rattle.bit_addressing_memory.proofs.Common.{◌≡◌, ℕ, zero, suc, ◌+◌, ◌-◌, ◌*◌, ◌/◌, ◌%◌, ◌<◌, ◌≤◌, Bool, List, length}
use Rattle.bit_addressing_memory.proofs.Common.{get_or, set, not, refl, sym, ap, ◌∙◌, inl, inr, arith}
use Rattle.bit_addressing_memory.proofs.Common.{length-set, cases_eq, cases_lt, Reading, entry, touched, Overwrites}
use Rattle.bit_addressing_memory.proofs.Common.{IsMasked, IsStored, ReadsPart}
use Rattle.std.proofs.Math.Nat.{mul-le-mul_right}
use Rattle.std.proofs.lemmas.List.{get_or_default}
use Rattle.std.proofs.lemmas.Nat.{div-mul-add, mod-mul-add, div-add-mod', mod_below}
use Rattle.bit_addressing_memory.proofs.EntryLemmas.{entry_read, entry-set_same, entry-set_other}

-- a word of a span begins before the span's end
pub part_start : (b head len k : ℕ) → k < touched b head len → 0 < b → k * b < head + len
part_start b head zero k within some = absurd (omega arith)
part_start b head (suc n) k within some =
    let last : k ≤ (head + n) / b = omega arith in
    let up : k * b ≤ (head + n) / b * b = mul-le-mul_right b last in
    omega (arith, div-add-mod' (head + n) b)

-- a span with a word has bits
pub part_some : (b head len k : ℕ) → k < touched b head len → 0 < len
part_some b head zero k within = absurd (omega arith)
part_some b head (suc n) k within = omega arith

-- the word j masked reads the memory there
pub reads_part : {R : Type 0} (reading : Reading R) (words : List R) (j : ℕ) (x word : R) (from upto : ℕ)
    → j < length words → x ≡ get_or words j x → IsMasked reading x word from upto
    → ReadsPart reading words j word from upto
reads_part reading words j x word from upto within e is = record {
  inside = λ i low high small. is.inside i low high small ∙ entry_read reading words j i x small within e;
  below = is.below;
  above = is.above;
}

-- the word j with its part stored writes the memory there, and nowhere else
pub stores_part : {R : Type 0} (reading : Reading R) (words : List R) (j : ℕ) (x w : R) (from upto : ℕ)
    (now : ℕ → Bool) → j < length words → x ≡ get_or words j x → from ≤ upto → upto ≤ reading.bits → 0 < reading.bits
    → IsStored reading x w from upto now
    → Overwrites reading words (set words j w) (j * reading.bits + from) (upto - from) (λ k. now (from + k))
stores_part reading words j x w from upto now within e order short some is =
    let same = λ (p : ℕ) (row : p / reading.bits ≡ j)
    (kept : reading.digit w (p % reading.bits) ≡ reading.digit x (p % reading.bits)).
    let place : j * reading.bits + p % reading.bits ≡ p = ap (λ q. q * reading.bits + p % reading.bits) (sym row)
    ∙ div-add-mod' p reading.bits in
    entry-set_same reading words j w p row within
    ∙ kept
    ∙ entry_read reading words j (p % reading.bits) x (mod_below p reading.bits some) within e
    ∙ ap (entry reading words) place in
    record {
      there = λ k small.
          let i : ℕ = from + k in
          let low : i < reading.bits = omega arith in
          let place : j * reading.bits + i ≡ j * reading.bits + from + k = omega arith in
          ap (entry reading (set words j w)) (sym place)
          ∙ entry-set_same reading words j w (j * reading.bits + i) (div-mul-add j reading.bits i low) within
          ∙ ap (reading.digit w) (mod-mul-add j reading.bits i low)
          ∙ is.inside i (omega arith) (omega arith) low;
      below = λ p before. elim (cases_eq (p / reading.bits) j) [
        | inl row ↦
            let place : j * reading.bits + p % reading.bits ≡ p = ap (λ q. q * reading.bits + p % reading.bits)
            (sym row) ∙ div-add-mod' p reading.bits in
            same p row (is.below (p % reading.bits) (omega arith) (mod_below p reading.bits some))
        | inr other ↦ entry-set_other reading words j w p other
      ];
      above = λ p after. elim (cases_eq (p / reading.bits) j) [
        | inl row ↦
            let place : j * reading.bits + p % reading.bits ≡ p = ap (λ q. q * reading.bits + p % reading.bits)
            (sym row) ∙ div-add-mod' p reading.bits in
            same p row (is.above (p % reading.bits) (omega arith) (mod_below p reading.bits some))
        | inr other ↦ entry-set_other reading words j w p other
      ];
      words = length-set words j w;
    }

-- the same entries by another name
pub stores_as : {R : Type 0} (reading : Reading R) (before after : List R) (place n : ℕ) (x y : ℕ → Bool)
    → Overwrites reading before after place n x → ((k : ℕ) → k < n → x k ≡ y k)
    → Overwrites reading before after place n y
stores_as reading before after place n x y is same = record {
  there = λ k small. is.there k small ∙ same k small;
  below = is.below;
  above = is.above;
  words = is.words;
}

-- a word whose digits are all the same stored in a part
pub stores_all : {R : Type 0} (reading : Reading R) (before after : List R) (place n from : ℕ) (value : R) (bit : Bool)
    → Overwrites reading before after place n (λ i. reading.digit value (from + i))
    → ((i : ℕ) → i < reading.bits → reading.digit value i ≡ bit)
    → from + n ≤ reading.bits → Overwrites reading before after place n (λ _. bit)
stores_all reading before after place n from value bit is same within =
    stores_as reading before after place n (λ i. reading.digit value (from + i)) (λ _. bit) is
    (λ i small. same (from + i) (omega arith))

-- the word j flipped and stored in a part of itself
pub stores_flipped : {R : Type 0} (reading : Reading R) (before after : List R) (place n from j : ℕ)
    (x value : R) → Overwrites reading before after place n (λ i. reading.digit value (from + i))
    → ((i : ℕ) → i < reading.bits → reading.digit value i ≡ not (reading.digit x i)) → x ≡ get_or before j x
    → j < length before
    → from + n ≤ reading.bits → place ≡ j * reading.bits + from
    → Overwrites reading before after place n (λ i. not (entry reading before (place + i)))
stores_flipped reading before after place n from j x value is turned e inside within at =
    stores_as reading before after place n (λ i. reading.digit value (from + i))
    (λ i. not (entry reading before (place + i))) is
    (λ i small.
    let low : from + i < reading.bits = omega arith in
    let here : j * reading.bits + (from + i) ≡ place + i = omega arith in
    turned (from + i) low
    ∙ ap not (entry_read reading before j (from + i) x low inside e ∙ ap (entry reading before) here))

-- a part of the first word begins at its index there
pub first_part : {R : Type 0} (reading : Reading R) (before after : List R) (head n : ℕ) (now : ℕ → Bool)
    → Overwrites reading before after (0 * reading.bits + head) n now → Overwrites reading before after head n now
first_part reading before after head n now is =
    let here : 0 * reading.bits + head ≡ head = omega arith in
    rw here at is

-- a value stored in a part of the first word, and that part then read, is the value masked
pub stored_then_read : {R : Type 0} (reading : Reading R) (before after : List R) (value result : R)
    (from upto from' upto' n : ℕ) → from' ≡ from → upto' ≡ upto → n ≡ upto - from
    → Overwrites reading before after from n (λ i. reading.digit value (from + i))
    → ReadsPart reading after 0 result from' upto' → IsMasked reading value result from upto
stored_then_read reading before after value result from upto from' upto' n same_head same_tail is_n stored read =
    record {
      inside = λ i low high small.
          let k : ℕ = i - from in
          let place : 0 * reading.bits + i ≡ from + k = omega arith in
          let index : from + k ≡ i = omega arith in
          read.inside i (omega arith) (omega arith) small
          ∙ ap (entry reading after) place
          ∙ stored.there k (omega arith)
          ∙ ap (reading.digit value) index;
      below = λ i low small. read.below i (omega arith) small;
      above = λ i high small. read.above i (omega arith) small;
    }

-- what was read of a part of the first word, stored there again, restores the memory
pub stored_back : {R : Type 0} (reading : Reading R) (before between after : List R) (was : R)
    (from upto from' n n' : ℕ) (now : ℕ → Bool) → from' ≡ from → n ≡ upto - from → n' ≡ n → upto ≤ reading.bits
    → ReadsPart reading before 0 was from upto → Overwrites reading before between from n now
    → Overwrites reading between after from' n' (λ i. reading.digit was (from' + i))
    → (p : ℕ) → entry reading after p ≡ entry reading before p
stored_back reading before between after was from upto from' n n' now same_head is_n same_len short read first again p =
    elim (cases_lt p from) [
      | inl low ↦ again.below p (omega arith) ∙ first.below p low
      | inr begun ↦ elim (cases_lt p (from + n)) [
        | inl inside ↦
            let k : ℕ = p - from in
            let place : p ≡ from' + k = omega arith in
            let index : from' + k ≡ p = omega arith in
            let start : 0 * reading.bits + p ≡ p = omega arith in
            ap (entry reading after) place
            ∙ again.there k (omega arith)
            ∙ ap (reading.digit was) index
            ∙ read.inside p begun (omega arith) (omega arith)
            ∙ ap (entry reading before) start
        | inr past ↦ again.above p (omega arith) ∙ first.above p past
      ]
    ]

-- the word j written whole
pub stores_whole : {R : Type 0} (reading : Reading R) (words : List R) (j : ℕ) (w : R) → j < length words
    → 0 < reading.bits
    → Overwrites reading words (set words j w) (j * reading.bits + 0) (reading.bits - 0) (λ i. reading.digit w (0 + i))
stores_whole reading words j w within some =
    let x = get_or words j w in
    stores_part reading words j x w 0 reading.bits (reading.digit w) within (get_or_default words j w x within)
    (omega arith) (omega arith) some (record {
      inside = λ i _ _ small. refl;
      below = λ i none _. absurd (omega arith);
      above = λ i past small. absurd (omega arith);
    })

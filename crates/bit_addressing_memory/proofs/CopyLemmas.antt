-- What one more bit, copied or exchanged, makes of a loop's work so far.
use Rattle.bit_addressing_memory.proofs.Common.{◌≡◌, ℕ, ◌+◌, ◌-◌, ◌<◌, ◌≤◌, Bool, List, refl, sym, ap, ◌∙◌, inl, inr}
use Rattle.bit_addressing_memory.proofs.Common.{arith, below_more, cases_eq, Reading, entry, Writes, Copies, Swaps}
use Rattle.bit_addressing_memory.proofs.OverwriteLemmas.{stretch_more, stretch_none, written_there, written_others}

-- ---- copies, the first bit first

-- before the first bit
pub copies_none : {R Q : Type 0} (reading : Reading R) (words : List R) (its : Reading Q)
    (other : List Q) (source target : ℕ) → Copies reading words words its other source target 0
copies_none reading words its other source target =
    stretch_none reading words target (λ k. entry its other (source + k))

-- one more bit
pub copies_more : {R Q : Type 0} (reading : Reading R) (before now after : List R) (its : Reading Q) (other : List Q)
    (source target k p : ℕ) (bit : Bool)
    → p ≡ target + k → bit ≡ entry its other (source + k)
    → Copies reading before now its other source target k → Writes reading now after p bit
    → Copies reading before after its other source target (k + 1)
copies_more reading before now after its other source target k p bit is_place is_bit had wrote =
    stretch_more reading before now after target k bit (λ i. entry its other (source + i)) is_bit had
    (rw is_place at wrote)

-- inside one memory, towards lower places: the bit read next is still as it was
pub not_yet_up : {R : Type 0} (reading : Reading R) (before now : List R) (source target k : ℕ)
    → target ≤ source → Copies reading before now reading before source target k
    → entry reading now (source + k) ≡ entry reading before (source + k)
not_yet_up reading before now source target k order had = had.above (source + k) (omega arith)

-- ---- copies inside one memory towards higher places, the last bit first

-- before the last bit
pub copies_none_down : {R : Type 0} (reading : Reading R) (words : List R) (source target len k : ℕ)
    → k ≡ len → Copies reading words words reading words (source + k) (target + k) (len - k)
copies_none_down reading words source target len k e =
    let none : len - k ≡ 0 = omega arith in
    rw none (copies_none reading words reading words (source + k) (target + k))

-- the bit read next, below the k of those that are done, is still as it was
pub not_yet_down : {R : Type 0} (reading : Reading R) (before now : List R) (source target len k : ℕ)
    → 0 < k → source ≤ target → Copies reading before now reading before (source + k) (target + k) (len - k)
    → entry reading now (source + (k - 1)) ≡ entry reading before (source + (k - 1))
not_yet_down reading before now source target len k some order had = had.below (source + (k - 1)) (omega arith)

-- one more bit
pub copies_more_down : {R : Type 0} (reading : Reading R) (before now after : List R)
    (source target len k p : ℕ) (bit : Bool)
    → 0 < k → k ≤ len → p ≡ target + (k - 1) → bit ≡ entry reading before (source + (k - 1))
    → Copies reading before now reading before (source + k) (target + k) (len - k)
    → Writes reading now after p bit
    → Copies reading before after reading before (source + (k - 1)) (target + (k - 1)) (len - (k - 1))
copies_more_down reading before now after source target len k p bit some inside is_place is_bit had wrote = record {
  there = λ i h. elim (cases_eq i 0) [
    | inl first ↦
        let to : target + (k - 1) + i ≡ p = omega arith in
        let from : source + (k - 1) ≡ source + (k - 1) + i = omega arith in
        ap (entry reading after) to ∙ (written_there wrote) ∙ is_bit ∙ ap (entry reading before) from
    | inr later ↦
        let to : target + (k - 1) + i ≡ target + k + (i - 1) = omega arith in
        let from : source + k + (i - 1) ≡ source + (k - 1) + i = omega arith in
        written_others wrote (target + (k - 1) + i) (omega arith)
        ∙ ap (entry reading now) to
        ∙ had.there (i - 1) (omega arith)
        ∙ ap (entry reading before) from
  ];
  below = λ q h. written_others wrote q (omega arith) ∙ had.below q (omega arith);
  above = λ q h. written_others wrote q (omega arith) ∙ had.above q (omega arith);
  words = wrote.words ∙ had.words;
}

-- all bits, from place 0 of the loop on
pub copies_all_down : {R : Type 0} (reading : Reading R) (before after : List R) (source target len k : ℕ)
    → k ≡ 0 → Copies reading before after reading before (source + k) (target + k) (len - k)
    → Copies reading before after reading before source target len
copies_all_down reading before after source target len k e had =
    let from : source + k ≡ source = omega arith in
    let to : target + k ≡ target = omega arith in
    let count : len - k ≡ len = omega arith in
    rw (from, to, count) at had

-- ---- exchanges

-- before the first bit
pub swaps_none : {R : Type 0} (reading : Reading R) (words : List R) (first second : ℕ)
    → Swaps reading words words first second 0
swaps_none reading words first second = record {
  to_first = λ k h. absurd (omega arith);
  to_second = λ k h. absurd (omega arith);
  others = λ p h g. refl;
  words = refl;
}

-- past k + 1 places from `first` on is past the last of them, and past the first k
outside : (r first k p : ℕ) → p ≡ first + k → (first ≤ r → first + (k + 1) ≤ r) → p ≤ r → p + 1 ≤ r
outside r first k p is h le = let far : first + (k + 1) ≤ r = h (omega arith) in omega arith

shorter : (r first k : ℕ) → (first ≤ r → first + (k + 1) ≤ r) → first ≤ r → first + k ≤ r
shorter r first k h le = let far : first + (k + 1) ≤ r = h le in omega arith

-- one more bit
pub swaps_more : {R : Type 0} (reading : Reading R) (before now after : List R) (first second k p q : ℕ)
    → p ≡ first + k → q ≡ second + k → first + k < second
    → Swaps reading before now first second k → Swaps reading now after p q 1
    → Swaps reading before after first second (k + 1)
swaps_more reading before now after first second k p q is_p is_q apart had swapped =
    let start_p : p + 0 ≡ first + k = omega arith in
    let start_q : q + 0 ≡ second + k = omega arith in
    record {
      to_first = below_more (λ i. entry reading after (first + i) ≡ entry reading before (second + i)) k
          (λ i h. swapped.others (first + i) (λ le. omega arith) (λ le. omega arith) ∙ had.to_first i h)
          (ap (entry reading after) (sym start_p)
          ∙ swapped.to_first 0 (omega arith)
          ∙ ap (entry reading now) start_q
          ∙ had.others (second + k) (λ le. omega arith) (λ le. omega arith));
      to_second = below_more (λ i. entry reading after (second + i) ≡ entry reading before (first + i)) k
          (λ i h. swapped.others (second + i) (λ le. omega arith) (λ le. omega arith) ∙ had.to_second i h)
          (ap (entry reading after) (sym start_q)
          ∙ swapped.to_second 0 (omega arith)
          ∙ ap (entry reading now) start_p
          ∙ had.others (first + k) (λ le. omega arith) (λ le. omega arith));
      others = λ r h g.
          swapped.others r (λ le. outside r first k p is_p h le) (λ le. outside r second k q is_q g le)
          ∙ had.others r (λ le. shorter r first k h le) (λ le. shorter r second k g le);
      words = swapped.words ∙ had.words;
    }

-- two bits written, each with what the other place held
pub swaps_two : {R : Type 0} (reading : Reading R) (before now after : List R) (p q : ℕ) (bit other : Bool)
    → bit ≡ entry reading before p → other ≡ entry reading before q
    → Writes reading before now p other → Writes reading now after q bit → Swaps reading before after p q 1
swaps_two reading before now after p q bit other is_bit is_other wrote then = record {
  to_first = λ k h.
      let to : p + k ≡ p = omega arith in
      let from : q ≡ q + k = omega arith in
      ap (entry reading after) to
      ∙ elim (cases_eq p q) [
        | inl same ↦ ap (entry reading after) same ∙ (written_there then) ∙ is_bit ∙ ap (entry reading before) same
        | inr apart ↦ written_others then p apart ∙ (written_there wrote) ∙ is_other
      ]
      ∙ ap (entry reading before) from;
  to_second = λ k h.
      let to : q + k ≡ q = omega arith in
      let from : p ≡ p + k = omega arith in
      ap (entry reading after) to ∙ (written_there then) ∙ is_bit ∙ ap (entry reading before) from;
  others = λ r h g.
      written_others then r (λ same. absurd (let past : q + 1 ≤ r = g (omega arith) in omega arith))
      ∙ written_others wrote r (λ same. absurd (let past : p + 1 ≤ r = h (omega arith) in omega arith));
  words = then.words ∙ wrote.words;
}

pub ruleset between_steps = (copies_none, copies_more)

pub ruleset within_steps = (
  copies_none,
  copies_more,
  not_yet_up,
  copies_none_down,
  copies_more_down,
  not_yet_down,
  copies_all_down,
)

pub ruleset swap_steps = (swaps_none, swaps_more)

-- The words of a move, one after another.
--
-- `swept_none`, `swept_one`, `swept_over`: no word, one, and many at once. `swept_more`: more words, either way. `moved_all`: all of them.
-- `first_le_last`: there is one. `one_read`, `reads_none`, `reads_again`: a sweep that was only read, and read again.
use Rattle.bit_addressing_memory.proofs.Common.{◌≡◌, ℕ, ◌+◌, ◌-◌, ◌*◌, ◌/◌, ◌<◌, ◌≤◌, Bool, cond, ◌&&◌, nat_lt, List}
use Rattle.bit_addressing_memory.proofs.Common.{length, set, refl, sym, ap, ap₂, ◌∙◌, inl, inr, arith, cases_lt, Reading}
use Rattle.bit_addressing_memory.proofs.Common.{entry, Overwrites}
use Rattle.std.specs.Prelude.{nat_le}
use Rattle.std.proofs.lemmas.Bool.Decides.{nat_tests}
use Rattle.std.proofs.Math.Nat.{mul-le-mul_right}
use Rattle.std.proofs.lemmas.Nat.{div-add-mod', le-div}
use Rattle.bit_addressing_memory.proofs.PartsLemmas.{stores_whole}
use Rattle.bit_addressing_memory.proofs.PlaceLemmas.{ends_behind, first_word}
use Rattle.bit_addressing_memory.specs.Moves.{Moves}
use Rattle.bit_addressing_memory.specs.Sweep.{SameButReads, counted_up}
use Rattle.bit_addressing_memory.specs.declared.sweep.Sweep.{Sweep}
use Rattle.bit_addressing_memory.specs.declared.sweep.Way.{Way}
use Rattle.bit_addressing_memory.specs.declared.sweep.Way.TheVariants.{Up, Down}
use Rattle.bit_addressing_memory.specs.Ways.{ReadsFirst, by_way}
use Rattle.bit_addressing_memory.specs.MoveSteps.{moved_bit, IsGathered, Swept}
use Rattle.bit_addressing_memory.proofs.Gathers.{moved_bit_inside, moved_bit_outside}

-- where the places that it reads are as before, the move leaves the same
moved_bit_same : {R : Type 0} (reading : Reading R) (before now : List R) (source target len p : ℕ)
    → entry reading now p ≡ entry reading before p
    → (target ≤ p → entry reading now (source + (p - target)) ≡ entry reading before (source + (p - target)))
    → moved_bit reading now source target len p ≡ moved_bit reading before source target len p
unfolding moved_bit
moved_bit_same reading before now source target len p own other = elim (cases_lt p target) [
  | inl h ↦
      moved_bit_outside reading now source target len p (λ start. absurd (omega arith))
      ∙ own
      ∙ sym (moved_bit_outside reading before source target len p (λ start. absurd (omega arith)))
  | inr h ↦ ap₂ (cond (nat_le target p && nat_lt p (target + len))) (other h) own
]

-- words overwritten by what the move leaves there
pub swept_over : {R : Type 0} (reading : Reading R) (before now : List R) (source target len k size place n : ℕ)
    (bits : ℕ → Bool) → place ≡ k * reading.bits → place + n ≡ (k + size) * reading.bits
    → ((i : ℕ) → i < n → bits i ≡ moved_bit reading before source target len (place + i))
    → Overwrites reading before now place n bits → Swept reading before now source target len k (k + size)
swept_over reading before now source target len k size place n bits start end is wrote = record {
  written = λ p low high.
      let i : ℕ = p - place in
      let at : place + i ≡ p = omega arith in
      let small : i < n = omega arith in
      ap (entry reading now) (sym at)
      ∙ wrote.there i small
      ∙ is i small
      ∙ ap (moved_bit reading before source target len) at;
  others = λ p out. elim (cases_lt p place) [
    | inl low ↦ wrote.below p low
    | inr high ↦ let past = out (omega arith) in wrote.above p (omega arith)
  ];
  words = wrote.words;
}

-- one word
pub swept_one : {R : Type 0} (reading : Reading R) (before : List R) (source target len k : ℕ) (word : R)
    → 0 < reading.bits → k < length before → IsGathered reading before k source target len word
    → Swept reading before (set before k word) source target len k (k + 1)
swept_one reading before source target len k word some h made =
    swept_over reading before (set before k word) source target len k 1 (k * reading.bits + 0) (reading.bits - 0)
    (λ i. reading.digit word (0 + i)) (omega arith) (omega arith)
    (λ i low.
    let at : k * reading.bits + (0 + i) ≡ k * reading.bits + 0 + i = omega arith in
    made (0 + i) (omega arith) ∙ ap (moved_bit reading before source target len) at)
    (stores_whole reading before k word h some)

-- no word
pub swept_none : {R : Type 0} (reading : Reading R) (before : List R) (source target len k : ℕ)
    → Swept reading before before source target len k k
swept_none reading before source target len k = record {
  written = λ p lo hi. absurd (omega arith);
  others = λ p out. refl;
  words = refl;
}

-- the other words between two ends after those on one side of mid: the lower ones first upwards, the higher downwards
pub swept_more : {R : Type 0} (w : Way) (reading : Reading R) (before now after : List R)
    (source target len low mid high : ℕ) → ReadsFirst w source target → low ≤ mid → mid ≤ high
    → Swept reading before now source target len (by_way w low mid) (by_way w mid high)
    → Swept reading now after source target len (by_way w mid low) (by_way w high mid)
    → Swept reading before after source target len low high
swept_more Up reading before now after source target len low mid high first order more had next =
    let under = mul-le-mul_right reading.bits order in
    let over = mul-le-mul_right reading.bits more in
    record {
      written = λ p lo hi. elim (cases_lt p (mid * reading.bits)) [
        | inl g ↦ next.others p (λ h. absurd (omega arith)) ∙ had.written p lo g
        | inr g ↦
            next.written p g hi
            ∙ moved_bit_same reading before now source target len p (had.others p (λ _. g))
            (λ t. had.others (source + (p - target)) (λ _. omega arith))
      ];
      others = λ p out.
          next.others p (λ h. out (omega (arith, under)))
          ∙ had.others p (λ h. let past = out h in omega (arith, over));
      words = next.words ∙ had.words;
    }
swept_more Down reading before now after source target len low mid high first order more had next =
    let under = mul-le-mul_right reading.bits order in
    let over = mul-le-mul_right reading.bits more in
    record {
      written = λ p lo hi. elim (cases_lt p (mid * reading.bits)) [
        | inl g ↦
            next.written p lo g
            ∙ moved_bit_same reading before now source target len p (had.others p (λ h. absurd (omega arith)))
            (λ t. had.others (source + (p - target)) (λ h. absurd (omega arith)))
        | inr g ↦ next.others p (λ _. g) ∙ had.written p g hi
      ];
      others = λ p out.
          next.others p (λ h. let past = out h in omega (arith, over))
          ∙ had.others p (λ h. out (omega (arith, under)));
      words = next.words ∙ had.words;
    }

-- a move whose words are all put, from the first to the last that the target touches
pub moved_all : {R : Type 0} (reading : Reading R) (before now : List R) (source target len bits : ℕ)
    → 0 < reading.bits → 0 < len → bits ≡ reading.bits
    → Swept reading before now source target len (target / bits) ((target + len - 1) / bits + 1)
    → Moves reading before now source target len
moved_all reading before now source target len bits some any is had =
    let end : ℕ = (target + len - 1) / bits + 1 in
    let low : target / bits * reading.bits ≤ target = omega (arith, first_word reading.bits bits target is) in
    let high : target + len ≤ end * reading.bits = ends_behind reading.bits bits (target + len) end is some (omega arith) in
    record {
      there = λ k h.
          let back : target + k - target ≡ k = omega arith in
          had.written (target + k) (omega arith) (omega arith)
          ∙ moved_bit_inside reading before source target len (target + k) (omega arith) (omega arith)
          ∙ ap (λ q. entry reading before (source + q)) back;
      below = λ p h. elim (cases_lt p (target / bits * reading.bits)) [
        | inl g ↦ had.others p (λ k. absurd (omega arith))
        | inr g ↦ had.written p g (omega arith) ∙ moved_bit_outside reading before source target len p (λ start. absurd (omega arith))
      ];
      above = λ p h. elim (cases_lt p (end * reading.bits)) [
        | inl g ↦ had.written p (omega arith) g ∙ moved_bit_outside reading before source target len p (λ _. h)
        | inr g ↦ had.others p (λ _. g)
      ];
      words = had.words;
    }

-- the target begins in no later word than it ends
pub first_le_last : (b place len : ℕ) → 0 < b → 0 < len → place / b ≤ (place + len - 1) / b
first_le_last b place len some any =
    le-div (place / b) (place + len - 1) b some (omega (arith, div-add-mod' place b))

pub one_read : (n m : ℕ) → m ≡ counted_up n → m ≤ n + 1
one_read n m is = grind (arith, nat_tests)

pub reads_none : {R : Type 0} (s : Sweep R) → SameButReads s s
reads_none s = record { words = refl; way = refl; edge = refl; writes = refl }

-- reads after reads
pub reads_again : {R : Type 0} (s t u : Sweep R) → SameButReads s t → SameButReads t u → SameButReads s u
reads_again s t u one other = record {
  words = other.words ∙ one.words;
  way = other.way ∙ one.way;
  edge = other.edge ∙ one.edge;
  writes = other.writes ∙ one.writes;
}

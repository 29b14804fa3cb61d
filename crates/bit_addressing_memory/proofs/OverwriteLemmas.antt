-- One entry overwritten, and what it tells of each entry.
--
-- From the record: `written_there`, `written_others`. To the record: `writes_from`. Several: `stretch_none`,
-- `stretch_more`, `overwrites_join`.
use Rattle.std.proofs.Common.{◌≡◌, ◌≢◌, ℕ, ◌+◌, ◌-◌, ◌<◌, Bool, List, length, refl, sym, ap, ◌∙◌, inl, inr, arith, below_more}
use Rattle.std.proofs.lemmas.Bool.{cases_lt}
use Rattle.bit_addressing_memory.specs.Memory.{Reading, entry, Overwrites, Writes}

-- the entry written is the bit
pub written_there : {R : Type 0} {reading : Reading R} {before after : List R} {place : ℕ} {bit : Bool}
    → Writes reading before after place bit → entry reading after place ≡ bit
written_there {reading} {after} {place} is =
    let here : place + 0 ≡ place = omega arith in
    ap (entry reading after) (sym here) ∙ is.there 0 (omega arith)

-- and each other entry is as before
pub written_others : {R : Type 0} {reading : Reading R} {before after : List R} {place : ℕ} {bit : Bool}
    → Writes reading before after place bit → (p : ℕ) → p ≢ place → entry reading after p ≡ entry reading before p
written_others {place} is p other = elim (cases_lt p place) [
  | inl low ↦ is.below p low
  | inr high ↦ is.above p (omega arith)
]

-- these two, and as many words, make a write
pub writes_from : {R : Type 0} {reading : Reading R} {before after : List R} {place : ℕ} {bit : Bool}
    → entry reading after place ≡ bit
    → ((p : ℕ) → p ≢ place → entry reading after p ≡ entry reading before p)
    → length after ≡ length before → Writes reading before after place bit
writes_from {reading} {after} {place} there others words = record {
  there = λ k first. let here : place + k ≡ place = omega arith in ap (entry reading after) here ∙ there;
  below = λ p low. others p (omega arith);
  above = λ p high. others p (omega arith);
  words = words;
}

-- a stretch overwritten bit by bit: before the first bit, and one more
pub stretch_none : {R : Type 0} (reading : Reading R) (words : List R) (place : ℕ) (now : ℕ → Bool)
    → Overwrites reading words words place 0 now
stretch_none reading words place now = record {
  there = λ k h. absurd (omega arith);
  below = λ p h. refl;
  above = λ p h. refl;
  words = refl;
}

pub stretch_more : {R : Type 0} (reading : Reading R) (before mid after : List R) (place k : ℕ) (bit : Bool)
    (now : ℕ → Bool) → bit ≡ now k → Overwrites reading before mid place k now
    → Writes reading mid after (place + k) bit → Overwrites reading before after place (k + 1) now
stretch_more reading before mid after place k bit now is_bit had wrote = record {
  there = below_more (λ i. entry reading after (place + i) ≡ now i) k
      (λ i h. written_others wrote (place + i) (omega arith) ∙ had.there i h)
      (written_there wrote ∙ is_bit);
  below = λ q h. written_others wrote q (omega arith) ∙ had.below q h;
  above = λ q h. written_others wrote q (omega arith) ∙ had.above q (omega arith);
  words = wrote.words ∙ had.words;
}

-- two stretches end to end
pub overwrites_join : {R : Type 0} (reading : Reading R) (before mid after : List R) (place n next m all : ℕ)
    (now then : ℕ → Bool) → next ≡ place + n → all ≡ n + m → ((i : ℕ) → i < m → then i ≡ now (n + i))
    → Overwrites reading before mid place n now → Overwrites reading mid after next m then
    → Overwrites reading before after place all now
overwrites_join reading before mid after place n next m all now then ends sum same one two = record {
  there = λ k small. elim (cases_lt k n) [
    | inl low ↦ two.below (place + k) (omega arith) ∙ one.there k low
    | inr high ↦
        let at : next + (k - n) ≡ place + k = omega arith in
        let back : n + (k - n) ≡ k = omega arith in
        ap (entry reading after) (sym at)
        ∙ two.there (k - n) (omega arith)
        ∙ same (k - n) (omega arith)
        ∙ ap now back
  ];
  below = λ p low. two.below p (omega arith) ∙ one.below p low;
  above = λ p high. two.above p (omega arith) ∙ one.above p (omega arith);
  words = two.words ∙ one.words;
}

-- Two stretches of one memory exchanged, chunk by chunk: none yet, one chunk, one more.
use Rattle.bit_addressing_memory.proofs.Common.{◌≡◌, ℕ, ◌+◌, ◌-◌, ◌*◌, ◌≤◌, List, refl, sym, ap, ◌∙◌, inl, inr, arith}
use Rattle.bit_addressing_memory.proofs.Common.{cases_lt, Reading, entry, Overwrites, Swaps}
use Rattle.bit_addressing_memory.specs.declared.direction.Direction.{Direction}
use Rattle.bit_slice_chunks.specs.Chunk.{chunk_bit, IsChunk}

-- before the first chunk
pub swaps_none : {R : Type 0} (reading : Reading R) (words : List R) (first second : ℕ)
    → Swaps reading words words first second (64 * 0)
swaps_none reading words first second = record {
  to_first = λ k h. absurd (omega arith);
  to_second = λ k h. absurd (omega arith);
  others = λ p h g. refl;
  words = refl;
}

-- two chunks read, and each written where the other was
pub swaps_chunks : {R : Type 0} (reading : Reading R) (before mid after : List R) (first second n : ℕ)
    (direction : Direction) (x y : ℕ) → first + n ≤ second
    → IsChunk reading before first n direction x → IsChunk reading before second n direction y
    → Overwrites reading before mid first n (chunk_bit direction y)
    → Overwrites reading mid after second n (chunk_bit direction x)
    → Swaps reading before after first second n
swaps_chunks reading before mid after first second n direction x y apart front back one two = record {
  to_first = λ k low. two.below (first + k) (omega arith) ∙ one.there k low ∙ back.inside k low;
  to_second = λ k low. two.there k low ∙ front.inside k low;
  others = λ p h g. elim (cases_lt p first) [
    | inl before_it ↦ two.below p (omega arith) ∙ one.below p before_it
    | inr behind ↦
        let past = h behind in
        elim (cases_lt p second) [
          | inl between ↦ two.below p between ∙ one.above p past
          | inr later ↦ two.above p (g later) ∙ one.above p past
        ]
  ];
  words = two.words ∙ one.words;
}

-- the stretches behind those that are exchanged
pub swaps_more : {R : Type 0} (reading : Reading R) (before mid after : List R) (first second n m all : ℕ)
    → all ≡ n + m → first + all ≤ second → Swaps reading before mid first second n
    → Swaps reading mid after (first + n) (second + n) m → Swaps reading before after first second all
swaps_more reading before mid after first second n m all sum apart had more = record {
  to_first = λ k small. elim (cases_lt k n) [
    | inl early ↦ more.others (first + k) (λ le. absurd (omega arith)) (λ le. absurd (omega arith)) ∙ had.to_first k early
    | inr later ↦
        let here : first + n + (k - n) ≡ first + k = omega arith in
        let there : second + n + (k - n) ≡ second + k = omega arith in
        ap (entry reading after) (sym here)
        ∙ more.to_first (k - n) (omega arith)
        ∙ ap (entry reading mid) there
        ∙ had.others (second + k) (λ le. omega arith) (λ le. omega arith)
  ];
  to_second = λ k small. elim (cases_lt k n) [
    | inl early ↦ more.others (second + k) (λ le. omega arith) (λ le. absurd (omega arith)) ∙ had.to_second k early
    | inr later ↦
        let here : first + n + (k - n) ≡ first + k = omega arith in
        let there : second + n + (k - n) ≡ second + k = omega arith in
        ap (entry reading after) (sym there)
        ∙ more.to_second (k - n) (omega arith)
        ∙ ap (entry reading mid) here
        ∙ had.others (first + k) (λ le. omega arith) (λ le. absurd (omega arith))
  ];
  others = λ p h g.
      more.others p (λ le. let far = h (omega arith) in omega arith) (λ le. let far = g (omega arith) in omega arith)
      ∙ had.others p (λ le. let far = h le in omega arith) (λ le. let far = g le in omega arith);
  words = more.words ∙ had.words;
}

-- A stretch turned round from its two ends, by any steps: none yet, more behind what is turned, all.
use Rattle.bit_addressing_memory.proofs.Common.{◌≡◌, ℕ, ◌+◌, ◌-◌, ◌*◌, ◌/◌, ◌≤◌, List, refl, sym, ap, ◌∙◌, inl, inr}
use Rattle.bit_addressing_memory.proofs.Common.{arith, cases_lt, Reading, entry, Overwrites}
use Rattle.bit_addressing_memory.proofs.PartsLemmas.{stores_as}
use Rattle.bit_addressing_memory.specs.declared.direction.Direction.{Direction}
use Rattle.bit_slice_chunks.specs.Chunk.{chunk_bit, IsChunk, IsTurned}
use Rattle.bit_slice_paths.specs.Mirrored.{Mirrored}

-- before the first exchange
pub mirrored_none : {R : Type 0} (reading : Reading R) (words : List R) (place n : ℕ)
    → Mirrored reading words words place n 0
mirrored_none reading words place n = record {
  front = λ k h. absurd (omega arith);
  back = λ k h. absurd (omega arith);
  others = λ p h g. refl;
  words = refl;
}

-- the ends of what is left exchanged
pub mirrored_more : {R : Type 0} (reading : Reading R) (before now after : List R) (place n i q m j all : ℕ)
    → q ≡ place + i → m + 2 * i ≡ n → 2 * j ≤ m → all ≡ i + j
    → Mirrored reading before now place n i → Mirrored reading now after q m j
    → Mirrored reading before after place n all
mirrored_more reading before now after place n i q m j all at size low sum had more = record {
  front = λ k small. elim (cases_lt k i) [
    | inl first ↦ more.others (place + k) (λ le. omega arith) (λ lt. omega arith) ∙ had.front k first
    | inr later ↦
        let here : q + (k - i) ≡ place + k = omega arith in
        let there : q + (m - 1 - (k - i)) ≡ place + (n - 1 - k) = omega arith in
        ap (entry reading after) (sym here)
        ∙ more.front (k - i) (omega arith)
        ∙ ap (entry reading now) there
        ∙ had.others (place + (n - 1 - k)) (λ le. omega arith) (λ lt. omega arith)
  ];
  back = λ k small. elim (cases_lt k i) [
    | inl first ↦
        more.others (place + (n - 1 - k)) (λ le. omega arith) (λ lt. omega arith) ∙ had.back k first
    | inr later ↦
        let here : q + (k - i) ≡ place + k = omega arith in
        let there : q + (m - 1 - (k - i)) ≡ place + (n - 1 - k) = omega arith in
        ap (entry reading after) (sym there)
        ∙ more.back (k - i) (omega arith)
        ∙ ap (entry reading now) here
        ∙ had.others (place + k) (λ le. omega arith) (λ lt. omega arith)
  ];
  others = λ p h g.
      more.others p (λ le. let far = h (omega arith) in omega arith)
      (λ lt. let far = g (omega arith) in omega arith)
      ∙ had.others p (λ le. let far = h le in omega arith) (λ lt. let far = g lt in omega arith);
  words = more.words ∙ had.words;
}

-- up to half of the bits, and at most one left between them
pub mirrored_all : {R : Type 0} (reading : Reading R) (before after : List R) (place n i : ℕ) → i ≡ n / 2
    → Mirrored reading before after place n i
    → Overwrites reading before after place n (λ k. entry reading before (place + (n - 1 - k)))
mirrored_all reading before after place n i half had = record {
  there = λ k small. elim (cases_lt k i) [
    | inl front ↦ had.front k front
    | inr later ↦ elim (cases_lt (n - 1 - k) i) [
      | inl back ↦
          let twice : place + (n - 1 - (n - 1 - k)) ≡ place + k = omega arith in
          ap (entry reading after) (sym twice) ∙ had.back (n - 1 - k) back
      | inr middle ↦
          let same : place + k ≡ place + (n - 1 - k) = omega arith in
          had.others (place + k) (λ le. omega arith) (λ lt. omega arith) ∙ ap (entry reading before) same
    ]
  ];
  below = λ p low. had.others p (λ le. omega arith) (λ lt. omega arith);
  above = λ p high. had.others p (λ le. omega arith) (λ lt. omega arith);
  words = had.words;
}

-- what is left turned round as a whole
pub mirrored_rest : {R : Type 0} (reading : Reading R) (before now after : List R) (place n i q m : ℕ)
    → q ≡ place + i → m + 2 * i ≡ n → Mirrored reading before now place n i
    → Overwrites reading now after q m (λ k. entry reading now (q + (m - 1 - k)))
    → Overwrites reading before after place n (λ k. entry reading before (place + (n - 1 - k)))
mirrored_rest reading before now after place n i q m at size had more = record {
  there = λ k small. elim (cases_lt k i) [
    | inl first ↦ more.below (place + k) (omega arith) ∙ had.front k first
    | inr later ↦ elim (cases_lt (n - 1 - k) i) [
      | inl last ↦
          let twice : place + (n - 1 - (n - 1 - k)) ≡ place + k = omega arith in
          more.above (place + k) (omega arith)
          ∙ ap (entry reading now) (sym twice)
          ∙ had.back (n - 1 - k) last
      | inr middle ↦
          let here : q + (k - i) ≡ place + k = omega arith in
          let there : q + (m - 1 - (k - i)) ≡ place + (n - 1 - k) = omega arith in
          ap (entry reading after) (sym here)
          ∙ more.there (k - i) (omega arith)
          ∙ ap (entry reading now) there
          ∙ had.others (place + (n - 1 - k)) (λ le. omega arith) (λ lt. omega arith)
    ]
  ];
  below = λ p low. more.below p (omega arith) ∙ had.others p (λ le. omega arith) (λ lt. omega arith);
  above = λ p high. more.above p (omega arith) ∙ had.others p (λ le. omega arith) (λ lt. omega arith);
  words = more.words ∙ had.words;
}

-- ---- chunks

-- two chunks read, turned round, and each written where the other was
pub mirrored_chunks : {R : Type 0} (reading : Reading R) (before mid after : List R) (first second n : ℕ)
    (direction : Direction) (x y new_x new_y : ℕ) → first + n ≤ second
    → IsChunk reading before first n direction x → IsChunk reading before second n direction y
    → IsTurned direction x n new_x → IsTurned direction y n new_y
    → Overwrites reading before mid first n (chunk_bit direction new_y)
    → Overwrites reading mid after second n (chunk_bit direction new_x)
    → Mirrored reading before after first (second + n - first) n
mirrored_chunks reading before mid after first second n direction x y new_x new_y apart front back front_turned
    back_turned one two = record {
      front = λ k low.
          let there : second + (n - 1 - k) ≡ first + (second + n - first - 1 - k) = omega arith in
          two.below (first + k) (omega arith)
          ∙ one.there k low
          ∙ back_turned k low
          ∙ back.inside (n - 1 - k) (omega arith)
          ∙ ap (entry reading before) there;
      back = λ k low.
          let there : second + (n - 1 - k) ≡ first + (second + n - first - 1 - k) = omega arith in
          let twice : n - 1 - (n - 1 - k) ≡ k = omega arith in
          ap (entry reading after) (sym there)
          ∙ two.there (n - 1 - k) (omega arith)
          ∙ front_turned (n - 1 - k) (omega arith)
          ∙ ap (chunk_bit direction x) twice
          ∙ front.inside k low;
      others = λ p h g. elim (cases_lt p first) [
        | inl before_it ↦ two.below p (omega arith) ∙ one.below p before_it
        | inr behind ↦
            let past = h behind in
            elim (cases_lt p (second + n)) [
              | inl inside ↦
                  let far = g (omega arith) in
                  two.below p (omega arith) ∙ one.above p past
              | inr out ↦ two.above p out ∙ one.above p past
            ]
      ];
      words = two.words ∙ one.words;
    }

-- a chunk read, turned round and written back
pub turned_chunk : {R : Type 0} (reading : Reading R) (before after : List R) (place n : ℕ)
    (direction : Direction) (x new_x : ℕ) → IsChunk reading before place n direction x
    → IsTurned direction x n new_x → Overwrites reading before after place n (chunk_bit direction new_x)
    → Overwrites reading before after place n (λ k. entry reading before (place + (n - 1 - k)))
turned_chunk reading before after place n direction x new_x chunk turned wrote =
    stores_as reading before after place n (chunk_bit direction new_x)
    (λ k. entry reading before (place + (n - 1 - k))) wrote
    (λ i low. turned i low ∙ chunk.inside (n - 1 - i) (omega arith))

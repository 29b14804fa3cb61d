-- Parts of blocks, and the places where blocks lie.
use Rattle.bit_addressing_memory.proofs.Common.{◌≡◌, ◌⊎◌, ℕ, ◌+◌, ◌-◌, ◌*◌, ◌/◌, ◌%◌, ◌<◌, ◌≤◌, List}
use Rattle.bit_addressing_memory.proofs.Common.{sym, ap, ◌∙◌, inl, inr, arith, cases_lt}
use Rattle.bit_addressing_memory.proofs.Common.{Reading, entry, Overwrites}
use Rattle.std.proofs.Math.Nat.{mul-le-mul_right}
use Rattle.bit_addressing_memory.specs.BitRegister.{IsRegisterSize}
use Rattle.bit_addressing_memory.specs.declared.direction.Direction.{Direction}
use Rattle.bit_addressing_memory.proofs.BlockLemmas.{next_word, words_of_64}
use Rattle.bit_addressing_memory.proofs.PlaceLemmas.{first_word}
use Rattle.bit_addressing_memory.specs.Chunk.{chunk_bit, IsChunk, IsCut, IsLowered, IsPatched}

-- the word behind the 64 bits in which a place lies, where they go on in it
pub word_behind : (b bits place words : ℕ) → IsRegisterSize b → b ≤ 64 → bits ≡ b → 0 < place % bits
    → place + 64 ≤ words * b → place / bits + 64 / bits < words
word_behind b bits place words size most is some within =
    let start : place / bits * b + place % bits ≡ place = first_word b bits place is in
    next_word b bits (place / bits) (place % bits) words size most is some (omega arith)

-- the word in which chunk k behind a place begins
pub nth_word : (b bits place k : ℕ) → IsRegisterSize b → b ≤ 64 → bits ≡ b
    → (place / bits + k * (64 / bits)) * b + place % bits ≡ place + 64 * k
nth_word b bits place k size most is =
    let start : place / bits * b + place % bits ≡ place = first_word b bits place is in
    let row : k * (64 / bits * b) ≡ k * 64 = ap (λ n. k * n) (words_of_64 b bits size most is) in
    omega arith

-- and with it the memory has 64 bits from the place on
pub chunk_within : (b bits place words : ℕ) → IsRegisterSize b → b ≤ 64 → bits ≡ b → 0 < b
    → place / bits + 64 / bits < words → place + 64 ≤ words * b
chunk_within b bits place words size most is some behind =
    let start : place / bits * b + place % bits ≡ place = first_word b bits place is in
    let any : 0 < bits = omega arith in
    let index : place % bits < b = omega arith in
    let row : (place / bits + 64 / bits + 1) * b ≤ words * b = mul-le-mul_right b (omega arith) in
    omega (arith, words_of_64 b bits size most is)

-- the first bits of a chunk, the others cut off
pub chunk_cut : {R : Type 0} (reading : Reading R) (words : List R) (place n count : ℕ) (direction : Direction)
    (chunk r : ℕ) → count ≤ n → IsChunk reading words place n direction chunk → IsCut direction chunk count r
    → IsChunk reading words place count direction r
chunk_cut reading words place n count direction chunk r few had cut = record {
  inside = λ i low. cut.inside i low ∙ had.inside i (omega arith);
  past = cut.past;
}

-- those from an index on
pub chunk_inside : {R : Type 0} (reading : Reading R) (words : List R) (place from count : ℕ) (direction : Direction)
    (chunk moved r : ℕ) → from + count ≤ 64 → IsChunk reading words place 64 direction chunk
    → IsLowered direction chunk from moved → IsCut direction moved count r
    → IsChunk reading words (place + from) count direction r
chunk_inside reading words place from count direction chunk moved r within had lower cut = record {
  inside = λ i low.
      let here : place + (i + from) ≡ place + from + i = omega arith in
      cut.inside i low
      ∙ lower.inside i (omega arith)
      ∙ had.inside (i + from) (omega arith)
      ∙ ap (entry reading words) here;
  past = cut.past;
}

-- and with them the memory has as many
pub block_within : (b bits first words : ℕ) → IsRegisterSize b → b ≤ 64 → bits ≡ b → 64 / bits ≤ words - first
    → first < words
    → first * b + 64 ≤ words * b
block_within b bits first words size most is enough low =
    let row : (first + 64 / bits) * b ≤ words * b = mul-le-mul_right b (omega arith) in
    omega (arith, words_of_64 b bits size most is)

-- the words that make the 64 bits in which a place lies
pub block_begins : (b bits place : ℕ) → IsRegisterSize b → b ≤ 64 → bits ≡ b
    → place / 64 * (64 / bits) * b + place % 64 ≡ place
block_begins b bits place size most is =
    let row : place / 64 * (64 / bits * b) ≡ place / 64 * 64 =
    ap (λ n. place / 64 * n) (words_of_64 b bits size most is) in
    omega arith

-- the same place by another name
pub chunk_as : {R : Type 0} (reading : Reading R) (words : List R) (place at n : ℕ) (direction : Direction) (chunk : ℕ)
    → place ≡ at → IsChunk reading words place n direction chunk → IsChunk reading words at n direction chunk
chunk_as reading words place at n direction chunk is had = rw (← is) had

-- a part of a chunk's words
pub patched_chunk : {R : Type 0} (reading : Reading R) (before after : List R) (place from count : ℕ)
    (direction : Direction) (chunk other r : ℕ) → from + count ≤ 64 → IsChunk reading before place 64 direction chunk
    → IsPatched direction chunk from count other r
    → Overwrites reading before after place 64 (chunk_bit direction r)
    → Overwrites reading before after (place + from) count (chunk_bit direction other)
patched_chunk reading before after place from count direction chunk other r within had is wrote =
    let kept : (p : ℕ) → place ≤ p → p < place + 64 → (p - place < from) ⊎ (from + count ≤ p - place)
    → entry reading after p ≡ entry reading before p =
    λ p over under beside.
    let i : ℕ = p - place in
    let here : place + i ≡ p = omega arith in
    let same : chunk_bit direction r i ≡ chunk_bit direction chunk i = elim beside [
      | inl low ↦ is.below i low
      | inr high ↦ is.above i high (omega arith)
    ] in
    ap (entry reading after) (sym here)
    ∙ wrote.there i (omega arith)
    ∙ same
    ∙ had.inside i (omega arith)
    ∙ ap (entry reading before) here in
    record {
      there = λ k small.
          let here : place + from + k ≡ place + (from + k) = omega arith in
          ap (entry reading after) here ∙ wrote.there (from + k) (omega arith) ∙ is.inside k small;
      below = λ p low. elim (cases_lt p place) [
        | inl under ↦ wrote.below p under
        | inr over ↦ kept p over (omega arith) (inl (omega arith))
      ];
      above = λ p high. elim (cases_lt p (place + 64)) [
        | inl under ↦ kept p (omega arith) under (inr (omega arith))
        | inr over ↦ wrote.above p over
      ];
      words = wrote.words;
    }

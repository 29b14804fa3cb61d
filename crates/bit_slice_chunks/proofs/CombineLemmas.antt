-- Bits of a memory combined with those of a chunk.
use Rattle.bit_addressing_memory.proofs.Common.{◌≡◌, ℕ, ◌+◌, ◌-◌, ◌*◌, ◌%◌}
use Rattle.bit_addressing_memory.proofs.Common.{◌==◌, ◌<◌, ◌≤◌, Bool, ◌&&◌, ◌||◌, List}
use Rattle.bit_addressing_memory.proofs.Common.{length, get_or, bit_and, bit_or, bit_xor, min, max, sym, ap, ap₂, ◌∙◌}
use Rattle.bit_addressing_memory.proofs.Common.{inl, inr, arith, cases_lt, Reading, entry, Overwrites}
use mathlib.Core.Bool.{xor}
use Rattle.std.specs.Int.{bit_at}
use Rattle.std.proofs.lemmas.Bool.Decides.{nat_tests}
use Rattle.std.proofs.lemmas.Nat.Bits.{bit_at_and, bit_at_or, bit_at_xor, bit_at-lt}
use Rattle.bit_addressing_memory.specs.Bits.{digit_at}
use Rattle.bit_addressing_memory.proofs.PartsLemmas.{stores_as}
use Rattle.bit_addressing_memory.specs.declared.direction.Direction.{Direction}
use Rattle.bit_addressing_memory.specs.Straight.{straight}
use Rattle.bit_addressing_memory.proofs.LimbLemmas.{or_left, or_right}
use Rattle.bit_addressing_memory.specs.Chunk.{chunk_bit, IsChunk, IsLowered, IsRaised, IsCut, IsRest, IsPart}
use Rattle.bit_addressing_memory.proofs.TransferLemmas.{part_entry}

-- ---- digits of two numbers combined

both : (x y r : ℕ) → x < 2 → y < 2 → r ≡ min x y → (r == 1) ≡ ((x == 1) && (y == 1))
both x y r low_x low_y is = grind (arith, nat_tests)

either : (x y r : ℕ) → x < 2 → y < 2 → r ≡ max x y → (r == 1) ≡ ((x == 1) || (y == 1))
either x y r low_x low_y is = grind (arith, nat_tests)

one : (x y r : ℕ) → x < 2 → y < 2 → r ≡ (x + y) % 2 → (r == 1) ≡ xor (x == 1) (y == 1)
unfolding xor
one x y r low_x low_y is = grind (arith, nat_tests)

pub and_digit : (m n p : ℕ) → digit_at (bit_and m n) p ≡ (digit_at m p && digit_at n p)
and_digit m n p =
    both (bit_at m p) (bit_at n p) (bit_at (bit_and m n) p) (bit_at-lt m p) (bit_at-lt n p) (bit_at_and m n p)

pub or_digit : (m n p : ℕ) → digit_at (bit_or m n) p ≡ (digit_at m p || digit_at n p)
or_digit m n p =
    either (bit_at m p) (bit_at n p) (bit_at (bit_or m n) p) (bit_at-lt m p) (bit_at-lt n p) (bit_at_or m n p)

pub xor_digit : (m n p : ℕ) → digit_at (bit_xor m n) p ≡ xor (digit_at m p) (digit_at n p)
xor_digit m n p =
    one (bit_at m p) (bit_at n p) (bit_at (bit_xor m n) p) (bit_at-lt m p) (bit_at-lt n p) (bit_at_xor m n p)

-- ---- a chunk

-- the bits read, combined and written back
pub combined_chunk : {R : Type 0} (reading : Reading R) (before after : List R) (place n : ℕ)
    (how : Bool → Bool → Bool) (direction : Direction) (chunk other result : ℕ)
    → IsChunk reading before place n direction chunk
    → ((p : ℕ) → digit_at result p ≡ how (digit_at chunk p) (digit_at other p))
    → Overwrites reading before after place n (chunk_bit direction result)
    → Overwrites reading before after place n
    (λ k. how (entry reading before (place + k)) (chunk_bit direction other k))
combined_chunk reading before after place n how direction chunk other result mine made wrote =
    stores_as reading before after place n (chunk_bit direction result)
    (λ k. how (entry reading before (place + k)) (chunk_bit direction other k)) wrote
    (λ i low.
    made (straight 64 direction i) ∙ ap (λ bit. how bit (chunk_bit direction other i)) (mine.inside i low))

-- the same from another place
pub combined_from : {R : Type 0} (reading : Reading R) (before after : List R) (place at n : ℕ)
    (how : Bool → Bool → Bool) (direction : Direction) (other : ℕ) → place ≡ at
    → Overwrites reading before after place n
    (λ k. how (entry reading before (place + k)) (chunk_bit direction other k))
    → Overwrites reading before after at n (λ k. how (entry reading before (at + k)) (chunk_bit direction other k))
combined_from reading before after place at n how direction other is had = rw (← is) had

-- whole words from an index of the first on, and the first bits of one word more
pub combined_across : {R : Type 0} (reading : Reading R) (direction : Direction) (before mid after : List R)
    (place first by j low up front own rest kept last down back other : ℕ) (x : R) (how : Bool → Bool → Bool)
    → first * reading.bits + by ≡ place → 0 < by → by < reading.bits → reading.bits ≤ 64 → j * reading.bits ≡ first * reading.bits + 64
    → IsChunk reading before (first * reading.bits) 64 direction low → IsRaised direction other by up
    → ((p : ℕ) → digit_at front p ≡ how (digit_at low p) (digit_at up p))
    → IsCut direction low by own → IsRest direction front by rest → kept ≡ bit_or own rest
    → IsPart reading x 0 reading.bits direction last → j < length before → x ≡ get_or before j x
    → IsLowered direction other (64 - by) down
    → ((p : ℕ) → digit_at back p ≡ how (digit_at last p) (digit_at down p))
    → Overwrites reading before mid (first * reading.bits) 64 (chunk_bit direction kept)
    → Overwrites reading mid after (j * reading.bits + 0) by (chunk_bit direction back)
    → Overwrites reading before after place 64
    (λ k. how (entry reading before (place + k)) (chunk_bit direction other k))
combined_across reading direction before mid after place first by j low up front own rest kept last down back
    other x how start some index narrow row whole put front_is cut tail made is within read moved back_is one two =
    let b : ℕ = reading.bits in
    record {
      there = λ k small. elim (cases_lt (by + k) 64) [
        | inl inside ↦
            let i : ℕ = by + k in
            let here : first * b + i ≡ place + k = omega arith in
            let again : i - by ≡ k = omega arith in
            let mine = whole.inside i inside ∙ ap (entry reading before) here in
            let its = put.above i (omega arith) inside ∙ ap (chunk_bit direction other) again in
            two.below (place + k) (omega arith)
            ∙ ap (entry reading mid) (sym here)
            ∙ one.there i inside
            ∙ ap (λ c. chunk_bit direction c i) made
            ∙ or_right own rest (straight 64 direction i) (cut.past i (omega arith) inside)
            ∙ tail.above i (omega arith) inside
            ∙ front_is (straight 64 direction i)
            ∙ ap₂ how mine its
        | inr across ↦
            let i : ℕ = k - (64 - by) in
            let here : j * b + 0 + i ≡ place + k = omega arith in
            let same : j * b + (0 + i) ≡ place + k = omega arith in
            let again : i + (64 - by) ≡ k = omega arith in
            let mine =
            part_entry reading direction before j 0 b i last x is within read (omega arith) (omega arith) (omega arith)
            ∙ ap (entry reading before) same in
            let its = moved.inside i (omega arith) ∙ ap (chunk_bit direction other) again in
            ap (entry reading after) (sym here)
            ∙ two.there i (omega arith)
            ∙ back_is (straight 64 direction i)
            ∙ ap₂ how mine its
      ];
      below = λ p under. two.below p (omega arith) ∙ elim (cases_lt p (first * b)) [
        | inl front_of ↦ one.below p front_of
        | inr after_it ↦
            let i : ℕ = p - first * b in
            let here : first * b + i ≡ p = omega arith in
            ap (entry reading mid) (sym here)
            ∙ one.there i (omega arith)
            ∙ ap (λ c. chunk_bit direction c i) made
            ∙ or_left own rest (straight 64 direction i) (tail.below i (omega arith))
            ∙ cut.inside i (omega arith)
            ∙ whole.inside i (omega arith)
            ∙ ap (entry reading before) here
      ];
      above = λ p over. two.above p (omega arith) ∙ one.above p (omega arith);
      words = two.words ∙ one.words;
    }

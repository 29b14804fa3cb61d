-- Chunks in another direction, and where two differ.
use Rattle.bit_addressing_memory.proofs.Common.{◌≡◌, ℕ, ◌+◌, ◌-◌, ◌*◌, ◌/◌, ◌^◌}
use Rattle.bit_addressing_memory.proofs.Common.{◌==◌, ◌<◌, ◌≤◌, ◌≢◌, suc, Bool, true}
use Rattle.bit_addressing_memory.proofs.Common.{false, List, bit_xor, refl, sym, ap, ◌∙◌, inl, inr, arith, cases_lt}
use Rattle.bit_addressing_memory.proofs.Common.{Reading}
use denote.Enum.Bare.{sameb}
use mathlib.Core.Bool.{xor}
use Rattle.std.specs.Int.{bit_at, leading_zeros, trailing_zeros, w64}
use Rattle.std.proofs.Math.Nat.{div-lt_iff_lt-mul, le-div_iff_mul-le, two-pow-succ}
use Rattle.std.proofs.lemmas.Nat.{leading_top, pow_pos}
use Rattle.std.proofs.lemmas.Nat.Bits.{bit_at-lt, bit_at-zero, bit_at-trailing_zeros, bit_at_above, bit_at_xor, same_from_bits}
use Rattle.bit_addressing_memory.specs.Bits.{digit_at}
use Rattle.bit_addressing_memory.specs.declared.direction.Direction.{Direction}
use Rattle.bit_addressing_memory.specs.declared.direction.Direction.TheVariants.{Ascending, Descending}
use Rattle.bit_addressing_memory.specs.contracts.direction.Direction.{the_type}
use Rattle.bit_addressing_memory.specs.Straight.{straight}
use Rattle.bit_addressing_memory.specs.Chunk.{chunk_bit, IsChunk, IsLowered, IsFaced, IsTurned, AgreeTo}
use Rattle.bit_slice_chunks.proofs.CombineLemmas.{xor_digit}

-- ---- the digits of a number, the last first

abbrev AreReversed : ℕ → ℕ → Type 0
AreReversed n r = (i : ℕ) → i < 64 → digit_at r i ≡ digit_at n (63 - i)

-- ---- a chunk in another direction

pub faced_same : (from to : Direction) (n : ℕ) → sameb the_type from to ≡ true → IsFaced from to n n
faced_same Ascending Ascending n same i small = refl
faced_same Descending Descending n same i small = refl
faced_same Ascending Descending n same i small = cc
faced_same Descending Ascending n same i small = cc

pub faced_other : (from to : Direction) (n r : ℕ) → sameb the_type from to ≡ false → AreReversed n r
    → IsFaced from to n r
faced_other Ascending Ascending n r other is i small = cc
faced_other Descending Descending n r other is i small = cc
faced_other Descending Ascending n r other is i small = is i small
faced_other Ascending Descending n r other is i small =
    let back : 63 - (64 - 1 - i) ≡ i = omega arith in
    is (64 - 1 - i) (omega arith) ∙ ap (digit_at n) back

-- a chunk of a memory, in another direction
pub faced_chunk : {R : Type 0} (reading : Reading R) (words : List R) (place n : ℕ) (from to : Direction)
    (chunk result : ℕ) → n ≤ 64 → IsChunk reading words place n from chunk → IsFaced from to chunk result
    → IsChunk reading words place n to result
faced_chunk reading words place n from to chunk result few had same = record {
  inside = λ i low. same i (omega arith) ∙ had.inside i low;
  past = λ i high small. same i small ∙ had.past i high small;
}

-- ---- the first bits of a chunk, the last of them first

-- all 64 of them
turned_bit : (direction : Direction) (n r i : ℕ) → i < 64 → AreReversed n r
    → chunk_bit direction r i ≡ chunk_bit direction n (64 - 1 - i)
turned_bit Ascending n r i small is = is i small
turned_bit Descending n r i small is = is (64 - 1 - i) (omega arith)

pub turned_is : (direction : Direction) (n mid count by r : ℕ) → 0 < count → count ≤ 64 → by ≡ 64 - count
    → AreReversed n mid → IsLowered direction mid by r → IsTurned direction n count r
turned_is direction n mid count by r some few is turned moved i low =
    let at : 64 - 1 - (i + by) ≡ count - 1 - i = omega arith in
    moved.inside i (omega arith)
    ∙ turned_bit direction n mid (i + by) (omega arith) turned
    ∙ ap (chunk_bit direction n) at

-- ---- where two chunks differ

same_xor : (x y : Bool) → xor x y ≡ false → x ≡ y
unfolding xor
same_xor true true is = refl
same_xor true false is = cc
same_xor false true is = cc
same_xor false false is = refl

other_xor : (x y : Bool) → xor x y ≡ true → x ≢ y
unfolding xor
other_xor true true is same = cc
other_xor true false is same = cc
other_xor false true is same = cc
other_xor false false is same = cc

-- what a digit of the chunks' difference tells
faced_xor : (direction : Direction) (x y d i : ℕ) → IsFaced direction Ascending (bit_xor x y) d → i < 64
    → digit_at d i ≡ xor (chunk_bit direction x i) (chunk_bit direction y i)
faced_xor direction x y d i faced small = faced i small ∙ xor_digit x y (straight 64 direction i)

pub agree_until : (direction : Direction) (x y d at : ℕ) → IsFaced direction Ascending (bit_xor x y) d → 0 < d
    → d < 2 ^ 64 → at ≡ trailing_zeros w64 d → AgreeTo direction x y at
agree_until direction x y d at faced some fits is =
    let first = bit_at-trailing_zeros w64 d some fits in
    let low : at < 64 = omega (arith, first.0) in
    record {
      most = omega arith;
      same = λ i before. same_xor (chunk_bit direction x i) (chunk_bit direction y i)
          (sym (faced_xor direction x y d i faced (omega arith))
          ∙ ap (λ b. b == 1) (first.2 i (omega arith)));
      differ = λ _. other_xor (chunk_bit direction x at) (chunk_bit direction y at)
          (sym (faced_xor direction x y d at faced low)
          ∙ ap (digit_at d) is
          ∙ ap (λ b. b == 1) first.1);
    }

-- two numbers that are not the same have a digit in which they differ
xor_some : (x y : ℕ) → x ≢ y → 0 < bit_xor x y
xor_some x y apart = elim (cases_lt 0 (bit_xor x y)) [
  | inl some ↦ some
  | inr none ↦
      let zero_is : bit_xor x y ≡ 0 = omega arith in
      absurd (apart (same_from_bits x y (λ i. omega (
        arith,
        bit_at_xor x y i,
        bit_at-lt x i,
        bit_at-lt y i,
        ap (λ n. bit_at n i) zero_is,
        bit_at-zero i,
      ))))
]

-- the highest digit of a number that is 1
pub top_digit : (n k : ℕ) → 2 ^ k ≤ n → n < 2 * 2 ^ k → bit_at n k ≡ 1
top_digit n k least most =
    let some = pow_pos k in
    let below : n / 2 ^ k < 2 = (div-lt_iff_lt-mul some).1 most in
    let above : 1 ≤ n / 2 ^ k = (le-div_iff_mul-le some).1 (omega arith) in
    omega arith

pub agree_up : (x y at : ℕ) → x ≢ y → bit_xor x y < 2 ^ 64 → at ≡ trailing_zeros w64 (bit_xor x y)
    → AgreeTo Ascending x y at
agree_up x y at apart fits is =
    agree_until Ascending x y (bit_xor x y) at (λ i small. refl) (xor_some x y apart) fits is

pub agree_down : (x y at : ℕ) → x ≢ y → bit_xor x y < 2 ^ 64 → at ≡ leading_zeros w64 (bit_xor x y)
    → AgreeTo Descending x y at
agree_down x y at apart fits is =
    let d : ℕ = bit_xor x y in
    let top = leading_top 64 d (xor_some x y apart) fits in
    let j : ℕ = top.0 in
    let sum : at + suc j ≡ 64 = ap (λ n. n + suc j) is ∙ top.1 in
    let high : d < 2 * 2 ^ j = omega (arith, top.3, two-pow-succ j) in
    let here : 64 - 1 - at ≡ j = omega (arith, sum) in
    record {
      most = omega (arith, sum);
      same = λ i before. same_xor (chunk_bit Descending x i) (chunk_bit Descending y i)
          (sym (xor_digit x y (64 - 1 - i))
          ∙ ap (λ b. b == 1) (bit_at_above d (suc j) (64 - 1 - i) top.3 (omega (arith, sum))));
      differ = λ _. other_xor (chunk_bit Descending x at) (chunk_bit Descending y at)
          (sym (xor_digit x y (64 - 1 - at))
          ∙ ap (digit_at d) here
          ∙ ap (λ b. b == 1) (top_digit d j top.2 high));
    }

-- Limbs: how many blocks of eight digits they have, and their digits.
use Rattle.bit_addressing_memory.proofs.Common.{◌≡◌, ℕ, ◌+◌, ◌-◌, ◌*◌, ◌/◌}
use Rattle.bit_addressing_memory.proofs.Common.{◌%◌, ◌^◌, ◌==◌, ◌<◌, ◌≤◌}
use Rattle.bit_addressing_memory.proofs.Common.{◌≢◌, false, bit_or, min, ap, sym, ◌∙◌, inl, inr, arith}
use Rattle.bit_addressing_memory.proofs.Common.{cases_lt, eqb-false, Reading, IsStored}
use Rattle.std.proofs.Math.Pow.{pow_mono}
use Rattle.std.proofs.lemmas.Nat.{pow-add}
use Rattle.std.proofs.lemmas.Nat.Bits.{bit_at_or, bit_at-lt}
use Rattle.std.specs.Int.{bit_at}
use Rattle.bit_addressing_order.specs.Bits.{digit_at}
use Rattle.bit_addressing_order.specs.BitRegister.{IsRegisterSize}
use Rattle.bit_addressing_memory.specs.Chunk.{IsLowered, IsPart, IsPatched, IsRaised}
use Rattle.bit_addressing_memory.specs.declared.direction.Direction.TheVariants.{Ascending}
use Rattle.bit_addressing_memory.proofs.ShiftLemmas.{bit_at_cut}

-- a digit of a number of 64 digits, as its register has it
pub wrapped : (n i : ℕ) → i < 64 → digit_at (n % 2 ^ 64) i ≡ digit_at n i
wrapped n i low = ap (λ d. d == 1) (bit_at_cut n 64 i low)

-- the digits of two numbers put together, where one of them has none
pub no_digit : (y p : ℕ) → digit_at y p ≡ false → bit_at y p ≡ 0
no_digit y p none =
    let other : bit_at y p ≢ 1 = eqb-false (bit_at y p) 1 none in
    omega (arith, bit_at-lt y p)

pub or_left : (x y p : ℕ) → digit_at y p ≡ false → digit_at (bit_or x y) p ≡ digit_at x p
or_left x y p none = ap (λ d. d == 1) (omega (arith, bit_at_or x y p, no_digit y p none))

pub or_right : (x y p : ℕ) → digit_at x p ≡ false → digit_at (bit_or x y) p ≡ digit_at y p
or_right x y p none = ap (λ d. d == 1) (omega (arith, bit_at_or x y p, no_digit x p none))

-- a limb is whole blocks
pub blocks_are : (b : ℕ) → IsRegisterSize b → 8 * (min b 64 / 8) ≡ min 64 b
blocks_are b size =
    let rest : 3 + (size.0 - 3) ≡ size.0 = omega (arith, size.1) in
    let eight : b ≡ 8 * 2 ^ (size.0 - 3) =
    size.3 ∙ ap (λ n. 2 ^ n) (sym rest) ∙ pow-add 2 3 (size.0 - 3) in
    omega (arith, eight)

-- a word of more than 64 bits has two limbs
pub two_limbs : (b : ℕ) → IsRegisterSize b → 64 < b → b ≡ 128
two_limbs b size wide = elim (cases_lt size.0 7) [
  | inl low ↦ absurd (omega (arith, size.3, pow_mono {i = size.0} {j = 6} (omega (arith, low))))
  | inr high ↦
      let all : size.0 ≡ 7 = omega (arith, size.2, high) in
      size.3 ∙ ap (λ n. 2 ^ n) all
]

-- ---- parts of words, by limbs

-- a part of one limb, that from the index `base` on
pub part_lowered : {R : Type 0} (reading : Reading R) (word : R) (base end by from upto limb low : ℕ) → base + by ≡ from
    → upto ≤ end → end ≤ base + 64 → IsPart reading word base end Ascending limb → IsLowered Ascending limb by low
    → IsPart reading word from upto Ascending low
part_lowered reading word base end by from upto limb low at within few is moved = record {
  inside = λ i small inside.
      let there : base + (i + by) ≡ from + i = omega arith in
      moved.inside i (omega arith) ∙ is.inside (i + by) (omega arith) (omega arith) ∙ ap (reading.digit word) there;
  past = λ i small far. elim (cases_lt (i + by) 64) [
    | inl near ↦ moved.inside i near ∙ is.past (i + by) near (omega arith)
    | inr out ↦ moved.past i small out
  ];
}

-- a part of both limbs of a word of 128 bits
pub part_joined : {R : Type 0} (reading : Reading R) (word : R) (from upto half end first next low high : ℕ)
    → reading.bits ≡ 128 → from < 64 → 64 ≤ half → upto ≤ end → IsPart reading word 0 half Ascending first
    → IsPart reading word 64 end Ascending next → IsLowered Ascending first from low
    → IsRaised Ascending next (64 - from) high → IsPart reading word from upto Ascending (bit_or low high)
part_joined reading word from upto half end first next low high wide index whole within one two moved put = record {
  inside = λ i small inside. elim (cases_lt (i + from) 64) [
    | inl near ↦
        let there : 0 + (i + from) ≡ from + i = omega arith in
        or_left low high i (put.below i (omega arith))
        ∙ moved.inside i near
        ∙ one.inside (i + from) near (omega arith)
        ∙ ap (reading.digit word) there
    | inr far ↦
        let there : 64 + (i - (64 - from)) ≡ from + i = omega arith in
        or_right low high i (moved.past i small far)
        ∙ put.above i (omega arith) small
        ∙ two.inside (i - (64 - from)) (omega arith) (omega arith)
        ∙ ap (reading.digit word) there
  ];
  past = λ i small far. absurd (omega arith);
}

-- ---- words with a chunk, by limbs

-- a word with a limb of its own digits and of others
pub limb_mixed : {R : Type 0} (reading : Reading R) (word result : R) (base l from upto chunk own limb : ℕ)
    → base ≤ from → from < upto → upto ≤ base + l → l ≤ 64
    → IsPart reading word base (base + l) Ascending own → IsPatched Ascending own (from - base) (upto - from) chunk limb
    → IsStored reading word result base (base + l) (λ i. digit_at limb (i - base))
    → IsStored reading word result from upto (λ i. digit_at chunk (i - from))
limb_mixed reading word result base l from upto chunk own limb low order high few is mixed stored = record {
  inside = λ i first last small.
      let back : from - base + (i - from) ≡ i - base = omega arith in
      stored.inside i (omega arith) (omega arith) small
      ∙ ap (digit_at limb) (sym back)
      ∙ mixed.inside (i - from) (omega arith);
  below = λ i before small. elim (cases_lt i base) [
    | inl outside ↦ stored.below i outside small
    | inr here ↦ stored.inside i here (omega arith) small ∙ mixed.below (i - base) (omega arith) ∙ same i here (omega arith)
  ];
  above = λ i behind small. elim (cases_lt i (base + l)) [
    | inl here ↦
        stored.inside i (omega arith) here small
        ∙ mixed.above (i - base) (omega arith) (omega arith)
        ∙ same i (omega arith) here
    | inr outside ↦ stored.above i outside small
  ];
}
  where
    same : (i : ℕ) → base ≤ i → i < base + l → digit_at own (i - base) ≡ reading.digit word i
    same i first last =
        let at : base + (i - base) ≡ i = omega arith in
        is.inside (i - base) (omega arith) (omega arith) ∙ ap (reading.digit word) at

-- a word with a whole limb of others
pub limb_whole : {R : Type 0} (reading : Reading R) (word result : R) (base l from upto chunk : ℕ) → base ≤ from
    → from < upto → upto ≤ base + l → upto - from ≡ l
    → IsStored reading word result base (base + l) (λ i. digit_at chunk (i - base))
    → IsStored reading word result from upto (λ i. digit_at chunk (i - from))
limb_whole reading word result base l from upto chunk low order high all stored =
    let start : base ≡ from = omega arith in
    let end : base + l ≡ upto = omega arith in
    rw (← end, ← start) stored

-- The digits of chunks moved, cut, and made of words.
use Rattle.bit_addressing_memory.proofs.Common.{◌≡◌, ℕ, ◌+◌, ◌-◌, ◌*◌, ◌/◌, ◌%◌, ◌^◌, ◌==◌, ◌<◌, ◌≤◌, true, false}
use Rattle.bit_addressing_memory.proofs.Common.{bit_and, bit_or, refl, sym, ap, ◌∙◌, arith, reading_in}
use Rattle.std.proofs.Math.Nat.{div-le_self, mod-eq_of_lt}
use Rattle.std.proofs.Math.Pow.{pow_mono}
use Rattle.std.proofs.lemmas.Nat.Bits.{bit_at_above, bit_at_and, bit_at_or, bit_at_not, bit_at-lt, bit_at-zero}
use Rattle.std.specs.Int.{bit_at, bit_not, w64}
use Rattle.bit_addressing_order.specs.Bits.{digit_at}
use Rattle.bit_addressing_memory.specs.declared.direction.Direction.{Direction}
use Rattle.bit_addressing_memory.specs.declared.direction.Direction.TheVariants.{Ascending, Descending}
use Rattle.bit_addressing_memory.proofs.ShiftLemmas.{bit_at_shr, bit_at_cut, bit_at_shl_low, bit_at_shl_high}
use Rattle.bit_addressing_memory.specs.Straight.{straight, Goes}
use Rattle.bit_addressing_memory.proofs.LimbLemmas.{no_digit}
use Rattle.bit_addressing_memory.specs.Chunk.{chunk_bit, IsLowered, IsRaised, IsCut, IsRest, IsPart, IsPatched, IsPlaced}

-- ---- digits as truth values, at a place that is known by an equation

up : (n m p q : ℕ) → bit_at n p ≡ bit_at m q → (bit_at n p == 1) ≡ (bit_at m q == 1)
up n m p q e = ap (λ d. d == 1) e

none : (n p : ℕ) → bit_at n p ≡ 0 → (bit_at n p == 1) ≡ false
none n p e = ap (λ d. d == 1) e

-- ---- one chunk

-- moved towards bit 0
pub lowered_up : (n s r : ℕ) → n < 2 ^ 64 → r ≡ n / 2 ^ s → IsLowered Ascending n s r
lowered_up n s r fits is = record {
  inside = λ i low. up r n i (i + s) (ap (λ m. bit_at m i) is ∙ bit_at_shr n s i);
  past = λ i small far.
      none r i (ap (λ m. bit_at m i) is ∙ bit_at_shr n s i ∙ bit_at_above n 64 (i + s) fits far);
}

pub lowered_down : (n s r : ℕ) → r ≡ n * 2 ^ s % 2 ^ 64 → IsLowered Descending n s r
lowered_down n s r is = record {
  inside = λ i low.
      let at : 64 - 1 - i - s ≡ 64 - 1 - (i + s) = omega arith in
      up r n (64 - 1 - i) (64 - 1 - (i + s)) (ap (λ m. bit_at m (64 - 1 - i)) is
      ∙ bit_at_cut (n * 2 ^ s) 64 (64 - 1 - i) (omega arith)
      ∙ bit_at_shl_high n s (64 - 1 - i) (omega arith)
      ∙ ap (bit_at n) at);
  past = λ i small far.
      none r (64 - 1 - i) (ap (λ m. bit_at m (64 - 1 - i)) is
      ∙ bit_at_cut (n * 2 ^ s) 64 (64 - 1 - i) (omega arith)
      ∙ bit_at_shl_low n s (64 - 1 - i) (omega arith));
}

-- moved away from bit 0
pub raised_up : (n s r : ℕ) → s < 64 → r ≡ n * 2 ^ s % 2 ^ 64 → IsRaised Ascending n s r
raised_up n s r small is = record {
  below = λ i low.
      none r i (ap (λ m. bit_at m i) is ∙ bit_at_cut (n * 2 ^ s) 64 i (omega arith) ∙ bit_at_shl_low n s i low);
  above = λ i high low.
      up r n i (i - s) (ap (λ m. bit_at m i) is
      ∙ bit_at_cut (n * 2 ^ s) 64 i low
      ∙ bit_at_shl_high n s i high);
}

pub raised_down : (n s r : ℕ) → n < 2 ^ 64 → s < 64 → r ≡ n / 2 ^ s → IsRaised Descending n s r
raised_down n s r fits small is = record {
  below = λ i low.
      none r (64 - 1 - i) (ap (λ m. bit_at m (64 - 1 - i)) is
      ∙ bit_at_shr n s (64 - 1 - i)
      ∙ bit_at_above n 64 (64 - 1 - i + s) fits (omega arith));
  above = λ i high low.
      let at : 64 - 1 - i + s ≡ 64 - 1 - (i - s) = omega arith in
      up r n (64 - 1 - i) (64 - 1 - (i - s)) (ap (λ m. bit_at m (64 - 1 - i)) is
      ∙ bit_at_shr n s (64 - 1 - i)
      ∙ ap (bit_at n) at);
}

-- moved away and back
pub cut_is : (direction : Direction) (n count above mid r : ℕ) → 0 < count → count ≤ 64 → above ≡ 64 - count
    → IsRaised direction n above mid → IsLowered direction mid above r → IsCut direction n count r
cut_is direction n count above mid r some few is had then = record {
  inside = λ i low.
      let back : i + above - above ≡ i = omega arith in
      then.inside i (omega arith) ∙ had.above (i + above) (omega arith) (omega arith) ∙ ap (chunk_bit direction n) back;
  past = λ i high small. then.past i small (omega arith);
}

-- moved there and away again
pub rest_is : (direction : Direction) (n from mid r : ℕ) → IsLowered direction n from mid
    → IsRaised direction mid from r → IsRest direction n from r
rest_is direction n from mid r had then = record {
  below = then.below;
  above = λ i high low.
      let back : i - from + from ≡ i = omega arith in
      then.above i high low ∙ had.inside (i - from) (omega arith) ∙ ap (chunk_bit direction n) back;
}

straight_within : (direction : Direction) (i : ℕ) → i < 64 → straight 64 direction i < 64
straight_within Ascending i small = small
straight_within Descending i small = omega arith

-- a digit of `n & !m | v`, where m has a 1 and where it has none
hit : (n m v p : ℕ) → m < 2 ^ 64 → p < 64 → digit_at m p ≡ true
    → digit_at (bit_or (bit_and n (bit_not w64 m)) v) p ≡ digit_at v p
hit n m v p fits small one =
    let is : bit_at m p ≡ 1 = grind (arith, one) in
    let other = bit_at_not w64 m p fits small in
    let kept = bit_at_and n (bit_not w64 m) p in
    ap (λ d. d == 1) (omega (arith, is, other, kept, bit_at_or (bit_and n (bit_not w64 m)) v p, bit_at-lt v p))

missed : (n m v p : ℕ) → m < 2 ^ 64 → p < 64 → digit_at m p ≡ false → digit_at v p ≡ false
    → digit_at (bit_or (bit_and n (bit_not w64 m)) v) p ≡ digit_at n p
missed n m v p fits small none empty =
    let is = no_digit m p none in
    let nothing = no_digit v p empty in
    let other = bit_at_not w64 m p fits small in
    let kept = bit_at_and n (bit_not w64 m) p in
    ap (λ d. d == 1)
    (omega (arith, is, nothing, other, kept, bit_at_or (bit_and n (bit_not w64 m)) v p, bit_at-lt n p))

each_one : (direction : Direction) (i : ℕ) → i < 64 → chunk_bit direction (bit_not w64 0) i ≡ true
each_one direction i small =
    let p = straight 64 direction i in
    ap (λ d. d == 1) (bit_at_not w64 0 p (omega arith) (straight_within direction i small) ∙ ap (λ d. 1 - d) (bit_at-zero p))

-- put over those that are there
pub patched_is : (direction : Direction) (n from count other ones mask few bits : ℕ) → from + count ≤ 64
    → mask < 2 ^ 64 → IsCut direction (bit_not w64 0) count ones → IsRaised direction ones from mask
    → IsCut direction other count few → IsRaised direction few from bits
    → IsPatched direction n from count other (bit_or (bit_and n (bit_not w64 mask)) bits)
patched_is direction n from count other ones mask few bits within fits all there own put = record {
  inside = λ i low.
      let back : from + i - from ≡ i = omega arith in
      let one : chunk_bit direction mask (from + i) ≡ true =
      there.above (from + i) (omega arith) (omega arith)
      ∙ ap (chunk_bit direction ones) back
      ∙ all.inside i low
      ∙ each_one direction i (omega arith) in
      hit n mask bits (straight 64 direction (from + i)) fits (straight_within direction (from + i) (omega arith)) one
      ∙ put.above (from + i) (omega arith) (omega arith)
      ∙ ap (chunk_bit direction few) back
      ∙ own.inside i low;
  below = λ i low.
      missed n mask bits (straight 64 direction i) fits (straight_within direction i (omega arith)) (there.below i low)
      (put.below i low);
  above = λ i high small.
      missed n mask bits (straight 64 direction i) fits (straight_within direction i small)
      (there.above i (omega arith) small ∙ all.past (i - from) (omega arith) (omega arith))
      (put.above i (omega arith) small ∙ own.past (i - from) (omega arith) (omega arith));
}

-- ---- a chunk of a word

pub part_up_is : {R : Type 0} (b : ℕ) (number : R → ℕ) (at : ℕ → ℕ) (word : R) (from r : ℕ) → Goes b at Ascending
    → number word < 2 ^ b → r ≡ number word / 2 ^ from % 2 ^ 64
    → IsPart (reading_in b number at) word from b Ascending r
part_up_is b number at word from r goes fits is = let n : ℕ = number word in record {
  inside = λ i small low.
      let there : i + from ≡ from + i = omega arith in
      up r n i (from + i) (ap (λ m. bit_at m i) is
      ∙ bit_at_cut (n / 2 ^ from) 64 i small
      ∙ bit_at_shr n from i
      ∙ ap (bit_at n) there)
      ∙ ap (digit_at n) (sym (goes (from + i) low));
  past = λ i small far.
      none r i (ap (λ m. bit_at m i) is
      ∙ bit_at_cut (n / 2 ^ from) 64 i small
      ∙ bit_at_shr n from i
      ∙ bit_at_above n b (i + from) fits (omega arith));
}

-- of a word of up to 64, by its positions
pub part_narrow_is : {R : Type 0} (b : ℕ) (number : R → ℕ) (word : R) (from r : ℕ) → number word < 2 ^ b → b ≤ 64
    → r ≡ number word % 2 ^ 64 / 2 ^ from → IsPart (reading_in b number (λ i. i)) word from b Ascending r
part_narrow_is b number word from r fits narrow is =
    let n : ℕ = number word in
    let small : n < 2 ^ 64 = omega (arith, pow_mono {i = b} {j = 64} narrow) in
    let same : n % 2 ^ 64 ≡ n = mod-eq_of_lt small in
    let less : n / 2 ^ from ≤ n = div-le_self n (2 ^ from) in
    part_up_is b number (λ i. i) word from r (λ i low. refl) fits
    (is ∙ ap (λ m. m / 2 ^ from) same ∙ sym (mod-eq_of_lt (omega arith)))

pub part_down_is : {R : Type 0} (b : ℕ) (number : R → ℕ) (at : ℕ → ℕ) (word : R) (from s r : ℕ)
    → Goes b at Descending → b ≤ 128 → from < b → s ≡ 128 - b + from
    → r ≡ number word * 2 ^ s % 2 ^ 128 / 2 ^ 64 → IsPart (reading_in b number at) word from b Descending r
part_down_is b number at word from s r goes most index by is = let n : ℕ = number word in record {
  inside = λ i small low.
      let there : 64 - 1 - i + 64 - s ≡ b - 1 - (from + i) = omega arith in
      up r n (64 - 1 - i) (b - 1 - (from + i)) (digit i small
      ∙ bit_at_shl_high n s (64 - 1 - i + 64) (omega arith)
      ∙ ap (bit_at n) there)
      ∙ ap (digit_at n) (sym (goes (from + i) low));
  past = λ i small far.
      none r (64 - 1 - i) (digit i small ∙ bit_at_shl_low n s (64 - 1 - i + 64) (omega arith));
}
  where
    digit : (i : ℕ) → i < 64 → bit_at r (64 - 1 - i) ≡ bit_at (number word * 2 ^ s) (64 - 1 - i + 64)
    digit i small =
        ap (λ m. bit_at m (64 - 1 - i)) is
        ∙ bit_at_shr (number word * 2 ^ s % 2 ^ 128) 64 (64 - 1 - i)
        ∙ bit_at_cut (number word * 2 ^ s) 128 (64 - 1 - i + 64) (omega arith)

-- ---- a word of a chunk

pub placed_up_is : (b n from r : ℕ) → b ≤ 128 → r ≡ n * 2 ^ from % 2 ^ 128 % 2 ^ b → IsPlaced Ascending n from b r
placed_up_is b n from r most is i high low near =
    up r n i (i - from) (ap (λ m. bit_at m i) is
    ∙ bit_at_cut (n * 2 ^ from % 2 ^ 128) b i low
    ∙ bit_at_cut (n * 2 ^ from) 128 i (omega arith)
    ∙ bit_at_shl_high n from i high)

pub placed_down_is : (b n from t r : ℕ) → b ≤ 128 → from < b → t ≡ 128 - b
    → r ≡ n * 2 ^ 64 % 2 ^ 128 / 2 ^ from / 2 ^ t % 2 ^ b → IsPlaced Descending n from b r
placed_down_is b n from t r most index by is i high low near =
    let x : ℕ = n * 2 ^ 64 % 2 ^ 128 in
    let p : ℕ = b - 1 - i in
    let at : p + t + from - 64 ≡ 64 - 1 - (i - from) = omega arith in
    up r n (b - 1 - i) (64 - 1 - (i - from)) (ap (λ m. bit_at m p) is
    ∙ bit_at_cut (x / 2 ^ from / 2 ^ t) b p (omega arith)
    ∙ bit_at_shr (x / 2 ^ from) t p
    ∙ bit_at_shr x from (p + t)
    ∙ bit_at_cut (n * 2 ^ 64) 128 (p + t + from) (omega arith)
    ∙ bit_at_shl_high n 64 (p + t + from) (omega arith)
    ∙ ap (bit_at n) at)

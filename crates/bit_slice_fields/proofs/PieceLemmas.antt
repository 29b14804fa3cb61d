-- Pieces of a window whose bits weigh in turn: what a piece is, gathered, and written.
--
-- A piece: `piece_is`. Its digits as a chunk has them: `piece_read`, `piece_digits`, `chunk_holds`. One piece more:
-- `gathered_piece`, `written_piece`, `scattered_piece`. A window that is one piece: `whole_piece`, `whole_digits`.
use Rattle.std.proofs.Common.{◌≡◌, ◌⊎◌, ℕ, ◌+◌, ◌-◌, ◌*◌, ◌/◌, ◌%◌, ◌^◌, ◌==◌, ◌<◌, ◌≤◌}
use Rattle.std.proofs.Common.{Bool, true, false, List, get_or, length, min, bit_or, arith, refl, sym, ap, ◌∙◌, inl, inr}
use Rattle.std.specs.Int.{bit_at}
use Rattle.std.proofs.Math.Nat.{div-eq_of_lt, mod-le, mul-le-mul_right, suc-mul}
use Rattle.std.proofs.Math.Pow.{pow_mono, pow_pos}
use Rattle.std.proofs.lemmas.Bool.{cases_lt}
use Rattle.std.proofs.lemmas.Nat.{or_lt, pow-add}
use Rattle.std.proofs.lemmas.Nat.Bits.{bit_at_or, bit_at_above}
use Rattle.bit_addressing_memory.specs.Bits.{digit_at}
use Rattle.bit_addressing_memory.specs.Memory.{Reading, entry, memory, piece, Overwrites}
use Rattle.bit_addressing_memory.proofs.ShiftLemmas.{bit_at_shr, bit_at_cut, bit_at_shl_low, bit_at_shl_high}
use Rattle.bit_addressing_memory.proofs.WindowLemmas.{window_bit}
use Rattle.bit_addressing_memory.specs.declared.direction.Direction.{Direction}
use Rattle.bit_addressing_memory.specs.declared.direction.Direction.TheVariants.{Ascending, Descending}
use Rattle.bit_addressing_memory.specs.Straight.{straight, Goes}
use Rattle.bit_addressing_memory.proofs.OverwriteLemmas.{overwrites_join}
use Rattle.bit_slice_chunks.specs.Chunk.{chunk_bit, digits_in, HoldsDigits, IsChunk, ReadsDigits}
use Rattle.bit_slice_chunks.proofs.DigitsLemmas.{digits_read}
use Rattle.bit_slice_fields.specs.Digits.{Gathered, HasDigits}
use Rattle.bit_slice_fields.specs.Number.{segment_start, segment_end, weight, CountsFrom}
use Rattle.bit_slice_fields.specs.Pieces.{way_for, least_bit, ChunkOf, IsPiece}
use Rattle.bit_slice_fields.proofs.WeightLemmas.{of_bit, same_segment, weight_up, weight_down, weight_within}
use Rattle.bit_slice_fields.proofs.WeightLemmas.{weights_apart}

-- ---- a piece

-- an order that counts from an end goes straight
pub goes_for : (low : Bool) (b : ℕ) (at : ℕ → ℕ) → CountsFrom low b at → Goes b at (way_for low)
goes_for true b at counts = counts
goes_for false b at counts = counts

straight_within : (m : ℕ) (way : Direction) (i : ℕ) → i < m → straight m way i < m
straight_within m Ascending i low = low
straight_within m Descending i low = omega arith

straight_back : (m : ℕ) (way : Direction) (i : ℕ) → i < m → straight m way (straight m way i) ≡ i
straight_back m Ascending i low = refl
straight_back m Descending i low = omega arith

-- in a segment from bit ss up to before bit se
up_in : (n ss se s i : ℕ) → ss ≤ s → n - se + (s + i - ss) ≡ n - se + (s - ss) + i
up_in n ss se s i from = omega arith

down_in : (ss se s e i : ℕ) → e ≤ se → i < e - s → ss + (se - 1 - (s + i)) ≡ ss + (se - 1 - (e - 1)) + (e - s - 1 - i)
down_in ss se s e i upto low = omega arith

down_over : (n s e i : ℕ) → e ≤ n → i < e - s → n - 1 - (s + i) ≡ n - 1 - (e - 1) + (e - s - 1 - i)
down_over n s e i inside low = omega arith

-- the bits of a piece weigh one more each
turns : (low le : Bool) (b h n s e i : ℕ) → 0 < b → e ≤ n → (low ≡ le) ⊎ (e ≤ segment_end b h n s) → i < e - s
    → weight low le b h n (s + i) ≡ weight low le b h n (least_bit low s e) + straight (e - s) (way_for low) i
turns true true b h n s e i some inside ends low =
    weight_up b h n (s + i) some (omega arith) ∙ ap (λ u. u + i) (sym (weight_up b h n s some (omega arith)))
turns false false b h n s e i some inside ends low =
    weight_down b h n (s + i) some (omega arith)
    ∙ down_over n s e i inside low
    ∙ ap (λ u. u + (e - s - 1 - i)) (sym (weight_down b h n (e - 1) some (omega arith)))
turns true false b h n s e i some inside (inl same) low = cc
turns false true b h n s e i some inside (inl same) low = cc
turns true false b h n s e i some inside (inr upto) low =
    let q = same_segment b h n s (s + i) some (omega arith) (omega arith) (omega arith) in
    let f = of_bit b h n s some (omega arith) in
    ap (λ k. n - min n (k * b + b - h) + (s + i - (k * b - h))) q
    ∙ up_in n (segment_start b h s) (segment_end b h n s) s i f.from
turns false true b h n s e i some inside (inr upto) low =
    let q = same_segment b h n s (s + i) some (omega arith) (omega arith) (omega arith) in
    let r = same_segment b h n s (e - 1) some (omega arith) (omega arith) (omega arith) in
    ap (λ k. k * b - h + (min n (k * b + b - h) - 1 - (s + i))) q
    ∙ down_in (segment_start b h s) (segment_end b h n s) s e i upto low
    ∙ ap (λ k. k * b - h + (min n (k * b + b - h) - 1 - (e - 1)) + (e - s - 1 - i)) (sym r)

-- the bit of a piece that weighs most
most_bit : (low : Bool) (m : ℕ) → 0 < m
    → (i : ℕ) × (i < m) × (straight m (way_for low) i ≡ m - 1)
most_bit true m some = (m - 1, omega arith, refl)
most_bit false m some = (0, some, omega arith)

pub piece_is : (low le : Bool) (b h n s e w : ℕ) → 0 < b → s < e → e ≤ n → e ≤ s + 64
    → (low ≡ le) ⊎ (e ≤ segment_end b h n s) → w ≡ weight low le b h n (least_bit low s e)
    → IsPiece (weight low le b h n) n (way_for low) s (e - s) w
piece_is low le b h n s e w some order inside few ends is =
    let each : (i : ℕ) → i < e - s → weight low le b h n (s + i) ≡ w + straight (e - s) (way_for low) i =
    λ i lower.
    turns low le b h n s e i some inside ends lower
    ∙ ap (λ u. u + straight (e - s) (way_for low) i) (sym is) in
    let most = most_bit low (e - s) (omega arith) in
    let top = each most.0 most.1 in
    let below = weight_within low le b h n (s + most.0) some (omega (arith, most.1)) in
    record {
      some = omega arith;
      few = omega arith;
      inside = omega arith;
      fits = omega (arith, top, below, most.2);
      turns = each;
    }

-- ---- a window that is one piece

-- the bit that weighs least, of a window in one word
least_inside : (low le : Bool) (b h n : ℕ) → 0 < b → h < b → 0 < n → (low ≡ le) ⊎ (h + n ≤ b)
    → 0 ≡ weight low le b h n (least_bit low 0 n)
least_inside true true b h n some head any one = sym (weight_up b h n 0 some any)
least_inside false false b h n some head any one =
    let last = weight_down b h n (n - 1) some (omega arith) in
    omega (arith, last)
least_inside true false b h n some head any (inl same) = cc
least_inside false true b h n some head any (inl same) = cc
least_inside true false b h n some head any (inr inside) =
    let word : (h + 0) / b ≡ 0 = div-eq_of_lt (omega arith) in
    rw word (omega arith)
least_inside false true b h n some head any (inr inside) =
    let word : (h + (n - 1)) / b ≡ 0 = div-eq_of_lt (omega arith) in
    rw word (omega arith)

-- it ends in the segment where it begins, or all bits weigh in turn
ends_inside : (low le : Bool) (b h n : ℕ) → h < b → (low ≡ le) ⊎ (h + n ≤ b)
    → (low ≡ le) ⊎ (n ≤ segment_end b h n 0)
ends_inside low le b h n head (inl same) = inl same
ends_inside low le b h n head (inr inside) =
    let word : (h + 0) / b ≡ 0 = div-eq_of_lt (omega arith) in
    inr (rw word (omega arith))

pub whole_piece : (low le : Bool) (b h n : ℕ) → 0 < b → h < b → 0 < n → n ≤ 64 → (low ≡ le) ⊎ (h + n ≤ b)
    → IsPiece (weight low le b h n) n (way_for low) 0 n 0
whole_piece low le b h n some head any few one =
    let all : n - 0 ≡ n = omega arith in
    rw all at
    (piece_is low le b h n 0 n 0 some any (omega arith) (omega arith) (ends_inside low le b h n head one)
    (least_inside low le b h n some head any one))

-- ---- its digits in a chunk

-- a number of m digits, those of the m bits of a list from bit s on
pub record HasPiece (way : Direction) (bits : List Bool) (s m d : ℕ) : Type 0 where
  pub digits : (i : ℕ) → i < m → digit_at d (straight m way i) ≡ get_or bits (s + i) false
  pub small : d < 2 ^ m

pub piece_read : {R : Type 0} (way : Direction) (reading : Reading R) (words : List R) (head n s m at d : ℕ)
    (bits : List Bool) → 0 < reading.bits → s + m ≤ n → at ≡ head + s → bits ≡ piece (memory reading words) head n
    → ReadsDigits reading words at m way d → HasPiece way bits s m d
piece_read way reading words head n s m at d bits some inside starts shows read =
    rw shows (record {
      digits = λ i low.
          let here : at + i ≡ head + (s + i) = omega arith in
          read.digits i low
          ∙ ap (entry reading words) here
          ∙ sym (window_bit reading words head n (s + i) some (omega arith));
      small = read.small;
    })

pub piece_digits : {R : Type 0} (way : Direction) (reading : Reading R) (words : List R)
    (head n s m at chunk d : ℕ) (bits : List Bool) → 0 < reading.bits → s + m ≤ n → 0 < m → m ≤ 64 → at ≡ head + s
    → bits ≡ piece (memory reading words) head n → chunk < 2 ^ 64 → d ≡ digits_in way m chunk
    → IsChunk reading words at m way chunk → HasPiece way bits s m d
piece_digits way reading words head n s m at chunk d bits some inside any few starts shows fits made is =
    rw made (piece_read way reading words head n s m at (digits_in way m chunk) bits some inside starts shows
    (digits_read way reading words at m chunk any few fits is))

-- a chunk of m digits of a number from digit w on
pub chunk_holds : (way : Direction) (d w m x r : ℕ) → m ≤ 64 → x ≡ d / 2 ^ w % 2 ^ 64 → HoldsDigits way x m r
    → ChunkOf way d w m r
chunk_holds way d w m x r few is holds i low =
    let p : ℕ = straight m way i in
    let small : p < m = straight_within m way i low in
    let at : p + w ≡ w + p = omega arith in
    holds i low
    ∙ ap (λ y. y == 1) (ap (λ y. bit_at y p) is
    ∙ bit_at_cut (d / 2 ^ w) 64 p (omega arith)
    ∙ bit_at_shr d w p
    ∙ ap (bit_at d) at)

-- the digits of a window that is one piece
pub whole_digits : (weighs : ℕ → ℕ) (n v : ℕ) (bits : List Bool) (way : Direction) → n ≡ length bits
    → IsPiece weighs n way 0 n 0 → HasPiece way bits 0 n v → HasDigits weighs bits v
whole_digits weighs n v bits way size is has = record {
  digits = λ i low.
      let at : 0 + straight n way i ≡ straight n way i = omega arith in
      let here : 0 + i ≡ i = omega arith in
      rw (at, here) at (ap (digit_at v) (is.turns i (omega arith)))
      ∙ has.digits i (omega arith)
      ∙ ap (λ k. get_or bits k false) here;
  small = rw (← size) has.small;
}

-- ---- one piece more

-- the digits of a number of m digits that is put in from digit w on, of t that there are
put_low : (t v w p : ℕ) → p < t → p < w → bit_at (v * 2 ^ w % 2 ^ t) p ≡ 0
put_low t v w p small low = bit_at_cut (v * 2 ^ w) t p small ∙ bit_at_shl_low v w p low

put_high : (t v w p : ℕ) → p < t → w ≤ p → bit_at (v * 2 ^ w % 2 ^ t) p ≡ bit_at v (p - w)
put_high t v w p small high = bit_at_cut (v * 2 ^ w) t p small ∙ bit_at_shl_high v w p high

put_small : (t v w m n : ℕ) → v < 2 ^ m → w + m ≤ n → v * 2 ^ w % 2 ^ t < 2 ^ n
put_small t v w m n fits room =
    let times : (v + 1) * 2 ^ w ≤ 2 ^ m * 2 ^ w = mul-le-mul_right (2 ^ w) (omega arith) in
    let next : (v + 1) * 2 ^ w ≡ v * 2 ^ w + 2 ^ w = omega (arith, suc-mul v (2 ^ w)) in
    let both : 2 ^ (m + w) ≡ 2 ^ m * 2 ^ w = pow-add 2 m w in
    let grows : 2 ^ (m + w) ≤ 2 ^ n = pow_mono {i = m + w} {j = n} (omega arith) in
    let some : 0 < 2 ^ w = pow_pos w in
    omega (arith, mod-le (v * 2 ^ w) (2 ^ t))

module _ (weighs : ℕ → ℕ) (n : ℕ) (bits : List Bool) (way : Direction) (t s m w d v : ℕ) (few : n ≤ t)
    (size : n ≡ length bits) (apart : (j k : ℕ) → j < n → k < n → weighs j ≡ weighs k → j ≡ k)
    (is : IsPiece weighs n way s m w) (has : HasPiece way bits s m v) where
  -- the weight of a bit of the piece has that bit
  own_digit : ((k : ℕ) → k < n → weighs k < n) → (k : ℕ) → s ≤ k → k < s + m
      → digit_at (v * 2 ^ w % 2 ^ t) (weighs k) ≡ get_or bits k false
  own_digit within k from upto =
      let i : ℕ = k - s in
      let here : s + i ≡ k = omega arith in
      let at : weighs k ≡ w + straight m way i = ap weighs (sym here) ∙ is.turns i (omega arith) in
      let low = within k (omega (arith, is.inside)) in
      let back : weighs k - w ≡ straight m way i = omega arith in
      ap (λ x. x == 1) (put_high t v w (weighs k) (omega arith) (omega arith) ∙ ap (bit_at v) back)
      ∙ has.digits i (omega arith)
      ∙ ap (λ j. get_or bits j false) here

  -- that of another bit has none
  no_other : ((k : ℕ) → k < n → weighs k < n) → (k : ℕ) → k < n → (k < s) ⊎ (s + m ≤ k)
      → bit_at (v * 2 ^ w % 2 ^ t) (weighs k) ≡ 0
  no_other within k inside beside =
      let p : ℕ = weighs k in
      let low = within k inside in
      elim (cases_lt p w) [
        | inl under ↦ put_low t v w p (omega arith) under
        | inr over ↦ elim (cases_lt (p - w) m) [
          | inl hit ↦
              let i = straight m way (p - w) in
              let lower : i < m = straight_within m way (p - w) hit in
              let at : weighs (s + i) ≡ p =
              is.turns i lower ∙ ap (λ q. w + q) (straight_back m way (p - w) hit) ∙ omega arith in
              let same : s + i ≡ k = apart (s + i) k (omega (arith, is.inside)) inside at in
              elim beside [
                | inl before ↦ absurd (omega arith)
                | inr behind ↦ absurd (omega arith)
              ]
          | inr past ↦ put_high t v w p (omega arith) over ∙ bit_at_above v m (p - w) has.small past
        ]
      ]

  pub gathered_piece : ((k : ℕ) → k < n → weighs k < n) → (e next : ℕ) → e ≡ bit_or d (v * 2 ^ w % 2 ^ t)
      → next ≡ s + m → Gathered weighs bits s d → Gathered weighs bits next e
  gathered_piece within e next made upto had =
      let u : ℕ = v * 2 ^ w % 2 ^ t in
      rw (made, upto) (record {
        below = λ k lower. elim (cases_lt k s) [
          | inl before ↦
              let none : bit_at u (weighs k) ≡ 0 =
              no_other within k (omega (arith, is.inside)) (inl before) in
              ap (λ x. x == 1) (omega (arith, bit_at_or d u (weighs k))) ∙ had.below k before
          | inr here ↦
              let none : bit_at d (weighs k) ≡ 0 = had.above k here (omega (arith, is.inside)) in
              ap (λ x. x == 1) (omega (arith, bit_at_or d u (weighs k))) ∙ own_digit within k here lower
        ];
        above = λ k higher lower.
            let one : bit_at u (weighs k) ≡ 0 = no_other within k (omega arith) (inr higher) in
            let two : bit_at d (weighs k) ≡ 0 = had.above k (omega arith) lower in
            omega (arith, bit_at_or d u (weighs k));
        small = or_lt (length bits) d u had.small (rw (← size) (put_small t v w m n has.small is.fits));
      })

-- the same of a window's weights
pub gathered_more : (low le : Bool) (t b c h n l s m w d v e next : ℕ) (bits : List Bool) (way : Direction) → 0 < b
    → n ≤ t → c ≡ b → l ≡ n → n ≡ length bits → IsPiece (weight low le c h l) l way s m w
    → HasPiece way bits s m v → e ≡ bit_or d (v * 2 ^ w % 2 ^ t) → next ≡ s + m
    → Gathered (weight low le b h n) bits s d → Gathered (weight low le b h n) bits next e
gathered_more low le t b c h n l s m w d v e next bits way some few same_b same_n size is has made upto had =
    let here = rw (same_b, same_n) at is in
    gathered_piece (weight low le b h n) n bits way t s m w d v few size
    (λ j k in_j in_k same. weights_apart low le b h n j k some in_j in_k same) here has
    (λ k inside. weight_within low le b h n k some inside) e next made upto had

-- a piece written by itself
pub written_piece : {R : Type 0} (reading : Reading R) (before after : List R) (weighs : ℕ → ℕ)
    (n s m w d chunk at place : ℕ) (way : Direction) → IsPiece weighs n way s m w → ChunkOf way d w m chunk
    → at ≡ place → Overwrites reading before after at m (chunk_bit way chunk)
    → Overwrites reading before after place m (λ k. digit_at d (weighs (s + k)))
written_piece reading before after weighs n s m w d chunk at place way is of here wrote =
    let there = rw here at wrote in
    record {
      there = λ k low. there.there k low ∙ of k low ∙ ap (digit_at d) (sym (is.turns k low));
      below = there.below;
      above = there.above;
      words = there.words;
    }

-- one piece more written
pub scattered_piece : {R : Type 0} (reading : Reading R) (before mid after : List R) (weighs : ℕ → ℕ)
    (place n s m w d chunk at next : ℕ) (way : Direction) → IsPiece weighs n way s m w → ChunkOf way d w m chunk
    → at ≡ place + s → next ≡ s + m → Overwrites reading before mid place s (λ k. digit_at d (weighs k))
    → Overwrites reading mid after at m (chunk_bit way chunk)
    → Overwrites reading before after place next (λ k. digit_at d (weighs k))
scattered_piece reading before mid after weighs place n s m w d chunk at next way is of starts upto one two =
    overwrites_join reading before mid after place s at m next (λ k. digit_at d (weighs k)) (chunk_bit way chunk)
    starts upto (λ i low. of i low ∙ ap (digit_at d) (sym (is.turns i low))) one two

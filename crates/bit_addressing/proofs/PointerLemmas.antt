-- Word numbers and places over the whole numbers.
use Rattle.std.proofs.Common.{◌≡◌, ◌↔◌, ℕ, ◌+◌, ◌-◌, ◌*◌, ◌^◌, ◌<◌, ◌≤◌, ◌∷◌, ◌++◌, []}
use Rattle.std.proofs.Common.{zero, suc, length, sym}
use Rattle.std.proofs.Common.{ap, ◌∙◌, arith}
use Rattle.std.proofs.Math.Nat.{mul-le-mul}
use Rattle.std.proofs.Math.IntN.{ℤ, pos, negsuc, ◌+ℤ◌, ◌-ℤ◌, ◌*ℤ◌, neg_ℤ, pred_ℤ, +ℤ-suc_ℤ, +ℤ-pred_ℤ, +ℤ_idr}
use Rattle.std.proofs.Math.IntN.{suc_ℤ-*ℤ, pred_ℤ-*ℤ, negsuc-*ℤ-pos}
use Rattle.std.proofs.lemmas.Int.{ints, fits_signed_from_abs, fits_signed_mul, unsigned_abs-mul, to_z-of_z}
use Rattle.std.specs.Int.{w64, w128}
use mir.Val.{to_z, of_z}
use Rattle.std.specs.Int.RustNames.{FitsSigned, unsigned_abs}
use Rattle.bit_addressing_order.specs.BitIdx.{IsOffset}
use Rattle.bit_addressing_memory.proofs.PlaceLemmas.{word_within}
use Rattle.bit_addressing.specs.Pointer.{Pointer, StaysIn, whole_place}
use Rattle.bit_addressing.specs.PointerRange.{PointerRange, IsRange, bits_between, pointers_of}
use Rattle.bit_addressing.proofs.PointerRangeLemmas.{pointers-none, pointers-first, pointers-last}
use Rattle.bit_addressing.proofs.PointerRangeLemmas.{length-pointers, stays_here}

-- words times bits, of a sum of word numbers
pub times_sum : (w v : ℤ) (b : ℕ) → (w +ℤ v) *ℤ pos b ≡ (w *ℤ pos b) +ℤ (v *ℤ pos b)
times_sum w (pos zero) b =
    let none : pos 0 *ℤ pos b ≡ pos 0 = omega (arith, ints) in
    ap (λ x. x *ℤ pos b) (+ℤ_idr w) ∙ omega (arith, ints)
times_sum w (pos (suc n)) b =
    let had = times_sum w (pos n) b in
    let more = suc_ℤ-*ℤ (pos n) (pos b) in
    ap (λ x. x *ℤ pos b) (+ℤ-suc_ℤ w (pos n)) ∙ suc_ℤ-*ℤ (w +ℤ pos n) (pos b) ∙ omega (arith, ints)
times_sum w (negsuc zero) b =
    let more = pred_ℤ-*ℤ (pos 0) (pos b) in
    ap (λ x. x *ℤ pos b) (+ℤ-pred_ℤ w (pos 0) ∙ ap pred_ℤ (+ℤ_idr w)) ∙ pred_ℤ-*ℤ w (pos b) ∙ omega (arith, ints)
times_sum w (negsuc (suc n)) b =
    let had = times_sum w (negsuc n) b in
    let more = pred_ℤ-*ℤ (negsuc n) (pos b) in
    ap (λ x. x *ℤ pos b) (+ℤ-pred_ℤ w (negsuc n)) ∙ pred_ℤ-*ℤ (w +ℤ negsuc n) (pos b) ∙ omega (arith, ints)

-- and of a difference
pub times_difference : (w v : ℤ) (b : ℕ) → (w -ℤ v) *ℤ pos b ≡ (w *ℤ pos b) -ℤ (v *ℤ pos b)
times_difference w v b =
    let whole = times_sum (w -ℤ v) v b in
    let back : (w -ℤ v) +ℤ v ≡ w = omega (arith, ints) in
    let of_w : (w *ℤ pos b) ≡ ((w -ℤ v) *ℤ pos b) +ℤ (v *ℤ pos b) = ap (λ x. x *ℤ pos b) (sym back) ∙ whole in
    omega (arith, ints)

-- a number below 0 times bits
pub times_negated : (n b : ℕ) → neg_ℤ (pos n) *ℤ pos b ≡ neg_ℤ (pos (n * b))
times_negated zero b = omega (arith, ints)
times_negated (suc n) b = negsuc-*ℤ-pos n b

-- a place that stays in is in a word whose number fits
pub fits_word : (b : ℕ) (w : ℤ) (j : ℕ) → j < b → StaysIn b ((w *ℤ pos b) +ℤ pos j) → FitsSigned w64 w
fits_word b (pos n) j low stays =
    let small : n < 2 ^ 63 = word_within b n j (2 ^ 63) (omega (arith, ints, stays.upto)) in
    fits_signed_from_abs w64 (pos n) small
fits_word b (negsuc n) j low stays =
    let small : suc n < 2 ^ 63 + 1 = word_within b (suc n) 0 (2 ^ 63 + 1) (omega (arith, ints, stays.from)) in
    let within : n < 2 ^ 63 = omega arith in
    omega (arith, ints)

-- a bit's place, its word so many words on, where its index is as many bits on
pub moved_place : (b : ℕ) (w words by : ℤ) (i j : ℕ) → IsOffset b i by words j
    → ((w +ℤ words) *ℤ pos b) +ℤ pos j ≡ ((w *ℤ pos b) +ℤ pos i) +ℤ by
moved_place b w words by i j is =
    let sum = times_sum w words b in
    let place = is.place in
    omega (arith, ints)

-- and its word's number fits where the place stays in
pub moved_fits : (b : ℕ) (w words by : ℤ) (i j : ℕ) → IsOffset b i by words j
    → StaysIn b (((w *ℤ pos b) +ℤ pos i) +ℤ by) → FitsSigned w64 (w +ℤ words)
moved_fits b w words by i j is stays =
    let stays' : StaysIn b (((w +ℤ words) *ℤ pos b) +ℤ pos j) = rw (moved_place b w words by i j is) stays in
    fits_word b (w +ℤ words) j is.within stays'

-- so many bits back, counted on from the mirrored index
pub mirrored : (b i count m x : ℕ) → i < b → x < b → m * b + x ≡ (b - 1 - i) + count
    → IsOffset b i (neg_ℤ (pos count)) (neg_ℤ (pos m)) (b - 1 - x)
mirrored b i count m x low small e =
    let times = times_negated m b in
    record { place = omega (arith, ints); within = omega arith }

-- two numbers that are passed on fit together where their sum does
pub passed_fits : (w v : ℤ) → FitsSigned w64 w → FitsSigned w64 v → FitsSigned w64 (w +ℤ v)
    → FitsSigned w64 (to_z w64 (of_z w64 w) +ℤ to_z w64 (of_z w64 v))
passed_fits w v fit_w fit_v fits = rw (to_z-of_z w64 w fit_w, to_z-of_z w64 v fit_v) fits

-- two word numbers lie less than 2 ^ 65 apart
pub apart_small : (w v : ℤ) → FitsSigned w64 w → FitsSigned w64 v → unsigned_abs (w -ℤ v) ≤ 2 ^ 65
apart_small w v fit_w fit_v = omega (arith, ints)

times_fits : (d : ℤ) (b : ℕ) → b ≤ 128 → unsigned_abs d ≤ 2 ^ 65 → FitsSigned w128 (d *ℤ pos b)
times_fits d b few small = fits_signed_mul w128 d (pos b) (2 ^ 65) 128 small few (omega arith)

-- a number of words times bits, as code computes it
pub between_value : (x d : ℤ) (b n : ℕ) → x ≡ d → n ≡ b → b ≤ 128 → unsigned_abs d ≤ 2 ^ 65
    → to_z w128 (of_z w128 (x *ℤ to_z w128 n)) ≡ d *ℤ pos b
between_value x d b n e f few small =
    let size : to_z w128 n ≡ pos b = omega (arith, ints) in
    rw (e, size) (to_z-of_z w128 (d *ℤ pos b) (times_fits d b few small))

-- and how large it is at most
pub between_small : (x d : ℤ) (b n : ℕ) → x ≡ d → n ≡ b → b ≤ 128 → unsigned_abs d ≤ 2 ^ 65
    → unsigned_abs (to_z w128 (of_z w128 (x *ℤ to_z w128 n))) ≤ 2 ^ 72
between_small x d b n e f few small =
    let most : unsigned_abs d * b ≤ 2 ^ 65 * 128 = mul-le-mul small few in
    rw (between_value x d b n e f few small) (rw (unsigned_abs-mul d (pos b)) (omega arith))

-- where a range has a bit, the places one on from its first pointer and one back from its end stay in
pub first_stays : (b : ℕ) (s e : Pointer) → IsRange b s e → 0 < bits_between b s e
    → StaysIn b (whole_place b s +ℤ pos 1)
first_stays b s e is some =
    let here = stays_here b s.word s.bit is.bit is.word in
    let end = stays_here b e.word e.bit is.end_bit is.end_word in
    record { from = omega (arith, ints, here.from, is.order); upto = omega (arith, ints, end.upto, is.order) }

pub last_stays : (b : ℕ) (s e : Pointer) → IsRange b s e → 0 < bits_between b s e → StaysIn b (whole_place b e -ℤ pos 1)
last_stays b s e is some =
    let here = stays_here b s.word s.bit is.bit is.word in
    let end = stays_here b e.word e.bit is.end_bit is.end_word in
    record { from = omega (arith, ints, here.from, is.order); upto = omega (arith, ints, end.upto, is.order) }

-- without its first bit it is a range
pub without_first : (b : ℕ) (s e n : Pointer) → IsRange b s e → 0 < bits_between b s e
    → whole_place b n ≡ whole_place b s +ℤ pos 1 → n.bit < b → IsRange b n e
without_first b s e n is some place low = record {
  word = fits_word b n.word n.bit low (rw place (first_stays b s e is some));
  bit = low;
  end_word = is.end_word;
  end_bit = is.end_bit;
  order = omega (arith, ints, is.order);
  few = omega (arith, ints, is.order, is.few);
}

-- and without its last
pub without_last : (b : ℕ) (s e l : Pointer) → IsRange b s e → 0 < bits_between b s e
    → whole_place b l ≡ whole_place b e -ℤ pos 1 → l.bit < b → IsRange b s l
without_last b s e l is some place low = record {
  word = is.word;
  bit = is.bit;
  end_word = fits_word b l.word l.bit low (rw place (last_stays b s e is some));
  end_bit = low;
  order = omega (arith, ints, is.order);
  few = omega (arith, ints, is.order, is.few);
}

-- it gives its first pointer, and then the others
pub gives_first : (b : ℕ) (range : PointerRange) (s e n p : Pointer) → IsRange b s e
    → record { start = s; len = bits_between b s e } ≡ range → 0 < range.len → p ≡ s
    → whole_place b n ≡ whole_place b s +ℤ pos 1
    → pointers_of b range ≡ p ∷ pointers_of b (record { start = n; len = bits_between b n e })
gives_first b range s e n p is seen some same place =
    let len : bits_between b s e ≡ range.len = ap (λ (r : PointerRange). r.len) seen in
    let less : bits_between b s e ≡ bits_between b n e + 1 = omega (arith, ints, is.order) in
    rw (← seen, same) (pointers-first b s.word s.bit (whole_place b n) (bits_between b s e)
    (bits_between b n e) is.bit less place)

-- and its last after the others
pub gives_last : (b : ℕ) (range : PointerRange) (s e l p : Pointer) → IsRange b s e
    → record { start = s; len = bits_between b s e } ≡ range → 0 < range.len → p ≡ l
    → whole_place b l ≡ whole_place b e -ℤ pos 1 → l.bit < b
    → pointers_of b range ≡ pointers_of b (record { start = s; len = bits_between b s l }) ++ p ∷ []
gives_last b range s e l p is seen some same place low =
    let len : bits_between b s e ≡ range.len = ap (λ (r : PointerRange). r.len) seen in
    let less : bits_between b s e ≡ bits_between b s l + 1 = omega (arith, ints, is.order) in
    let there : whole_place b l ≡ whole_place b s +ℤ pos (bits_between b s l) = omega (arith, ints, is.order) in
    rw (← seen, same) (pointers-last b (whole_place b s) (bits_between b s e)
    (bits_between b s l) l.word l.bit low less there)

-- so there are fewer each time
pub fewer_first : (b : ℕ) (range : PointerRange) (s e n : Pointer) → IsRange b s e
    → record { start = s; len = bits_between b s e } ≡ range → 0 < range.len
    → whole_place b n ≡ whole_place b s +ℤ pos 1
    → length (pointers_of b (record { start = n; len = bits_between b n e })) < length (pointers_of b range)
fewer_first b range s e n is seen some place =
    let len : bits_between b s e ≡ range.len = ap (λ (r : PointerRange). r.len) seen in
    let left = length-pointers b (whole_place b n) (bits_between b n e) in
    let had = length-pointers b (whole_place b range.start) range.len in
    let less : bits_between b n e < range.len = omega (arith, ints, is.order) in
    omega arith

pub fewer_last : (b : ℕ) (range : PointerRange) (s e l : Pointer) → IsRange b s e
    → record { start = s; len = bits_between b s e } ≡ range → 0 < range.len
    → whole_place b l ≡ whole_place b e -ℤ pos 1
    → length (pointers_of b (record { start = s; len = bits_between b s l })) < length (pointers_of b range)
fewer_last b range s e l is seen some place =
    let len : bits_between b s e ≡ range.len = ap (λ (r : PointerRange). r.len) seen in
    let left = length-pointers b (whole_place b s) (bits_between b s l) in
    let had = length-pointers b (whole_place b range.start) range.len in
    let less : bits_between b s l < range.len = omega (arith, ints, is.order) in
    omega arith

pub ruleset steps_from_front = (pointers-none, first_stays, without_first, gives_first, fewer_first)

pub ruleset steps_from_back = (pointers-none, last_stays, without_last, gives_last, fewer_last)

-- one fewer each time
pub one_fewer_first : (b : ℕ) (s e n : Pointer) → IsRange b s e → 0 < bits_between b s e
    → whole_place b n ≡ whole_place b s +ℤ pos 1 → bits_between b n e + 1 ≡ bits_between b s e
one_fewer_first b s e n is some place = omega (arith, ints, is.order)

pub one_fewer_last : (b : ℕ) (s e l : Pointer) → IsRange b s e → 0 < bits_between b s e
    → whole_place b l ≡ whole_place b e -ℤ pos 1 → bits_between b s l + 1 ≡ bits_between b s e
one_fewer_last b s e l is some place = omega (arith, ints, is.order)

-- the number of the word of a bit so many bits on, as code adds it up, fits exactly where the bit's place stays in
pub fits_where_stays : (b : ℕ) (p : Pointer) (w words by : ℤ) (i j : ℕ) → w ≡ p.word → i ≡ p.bit
    → FitsSigned w64 w → FitsSigned w64 words → IsOffset b i by words j
    → FitsSigned w64 (to_z w64 (of_z w64 w) +ℤ to_z w64 (of_z w64 words)) ↔ StaysIn b (whole_place b p +ℤ by)
fits_where_stays b p w words by i j is_word is_bit fit_w fit_words is =
    let there = moved_place b w words by i j is in
    rw (← is_word, ← is_bit, to_z-of_z w64 w fit_w, to_z-of_z w64 words fit_words) (
      λ fits. rw (← there) (stays_here b (w +ℤ words) j is.within fits),
      λ stays. moved_fits b w words by i j is stays,
    )

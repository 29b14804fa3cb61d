-- The span of a window: `touched_head`, `span_fits`, `span_ends`. The part of a word: `part_inside`, `word_beside`.
use Rattle.std.proofs.Common.{◌≡◌, ◌⊎◌, ℕ, ◌+◌, ◌*◌, ◌/◌, ◌%◌, ◌^◌, ◌<◌, ◌≤◌, ◌∙◌}
use Rattle.std.proofs.Common.{zero, suc, refl, ap, arith}
use Rattle.std.proofs.Common.{inl, inr, Bool, List}
use Rattle.std.proofs.Math.Nat.{add-mul-div_right, div-eq_of_lt, le-mul_of_pos_right, mod-lt}
use Rattle.std.proofs.lemmas.Nat.{div-add-mod'}
use Rattle.bit_addressing_memory.specs.Memory.{Reading, touched}
use Rattle.bit_addressing_memory.proofs.PartsLemmas.{part_start}
use Rattle.bit_addressing_span.specs.Parts.{part_count, part_place}
use Rattle.bit_addressing_span.specs.Span.{extent, IsExtent}
use Rattle.bit_addressing_span.specs.declared.span.TheConstants.{MAX_BITS}
use Rattle.bit_slice_access.specs.Domain.{window_span, WritesWord}
use Rattle.bit_slice_views_mut.proofs.FrameLemmas.{overwritten_beside}
use Rattle.bit_slice_views_mut.specs.Frame.{KeepsBeside}
use Rattle.bit_slice_views_mut.proofs.SweepLemmas.{touched_within}

-- as many words hold bits counted from their own word on
pub touched_head : (b place n : ℕ) → 0 < b → touched b (place % b) n ≡ touched b place n
touched_head b place zero some = refl
touched_head b place (suc n) some =
    let whole : place / b * b + place % b ≡ place = div-add-mod' place b in
    let turned : place + n ≡ place % b + n + place / b * b = omega (arith, whole) in
    let count : (place + n) / b ≡ (place % b + n) / b + place / b =
    ap (λ k. k / b) turned ∙ add-mul-div_right (place % b + n) (place / b) some in
    let none : place % b / b ≡ 0 = div-eq_of_lt (mod-lt place some) in
    omega (arith, count, none)

-- the words of a window lie among those in which its bits do
pub span_fits : (b place n w : ℕ) → 0 < b → place + n ≤ w * b → place / b + touched b (place % b) n ≤ w
span_fits b place n w some fits =
    omega (arith, touched_head b place n some, touched_within b place n w some fits)

-- and they end below 2 ^ 63 where the window does
pub span_ends : (b size place head n : ℕ) → 0 < b → size ≡ b → head ≡ place % size → n ≤ MAX_BITS
    → place + n < 2 ^ 63 → IsExtent MAX_BITS b (extent (place / size) head n)
span_ends b size place head n some is at short ends =
    let room : place + n ≤ (place + n) * b = le-mul_of_pos_right (place + n) some in
    let fits : place / b + touched b (place % b) n ≤ place + n = span_fits b place n (place + n) some room in
    rw (at, is) (short, omega (arith, fits, ends))

-- a number is 0, or a multiple by it is no less
first_or_more : (b k : ℕ) → (k * b ≡ 0) ⊎ (b ≤ k * b)
first_or_more b zero = inl (omega arith)
first_or_more b (suc k) = inr (omega arith)

-- the part of each word lies in the window
pub part_inside : (b place n k : ℕ) → 0 < b → k < touched b (place % b) n
    → (place ≤ part_place b (extent (place / b) (place % b) n) k)
    × (part_place b (extent (place / b) (place % b) n) k + part_count b (extent (place / b) (place % b) n) k
    ≤ place + n)
part_inside b place n k some within =
    let whole : place / b * b + place % b ≡ place = div-add-mod' place b in
    let start : k * b < place % b + n = part_start b (place % b) n k within some in
    let low : place % b < b = mod-lt place some in
    let sum : (place / b + k) * b ≡ place / b * b + k * b = omega arith in
    elim (first_or_more b k) [
      | inl first ↦ (omega arith, omega arith)
      | inr more ↦ (omega arith, omega arith)
    ]

-- so what is written in it keeps what stands beside the window
pub word_beside : {R : Type 0} (reading : Reading R) (before after : List R) (place n k : ℕ) (now : ℕ → Bool)
    → 0 < reading.bits → k < touched reading.bits (place % reading.bits) n
    → WritesWord reading before after (window_span reading.bits place n) k now
    → KeepsBeside reading before after place n
word_beside reading before after place n k now some within is =
    let inside = part_inside reading.bits place n k some within in
    overwritten_beside reading before after place n _ _ now inside.0 inside.1 is

pub ruleset spans = (span_fits, word_beside)

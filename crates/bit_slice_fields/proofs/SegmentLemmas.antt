-- Segments of a window whose bits weigh in turn in each word alone: each is a piece.
--
-- Where one begins and ends: `segment_piece`.
use Rattle.std.proofs.Common.{◌≡◌, ℕ, ◌+◌, ◌-◌, ◌*◌, ◌/◌, ◌%◌, ◌<◌, ◌≤◌, Bool, true, false}
use Rattle.std.proofs.Common.{arith, refl, sym, ap, ◌∙◌, inl, inr}
use Rattle.std.proofs.Math.Nat.{mul-add-mod_self_right}
use Rattle.std.proofs.lemmas.Bool.{cases_lt}
use Rattle.std.proofs.lemmas.Nat.{div-add-mod', mod-mul-add}
use Rattle.std.specs.Prelude.{if◌then◌else◌}
use Rattle.bit_slice_fields.specs.Number.{segment_start, segment_end, weight}
use Rattle.bit_slice_fields.specs.Pieces.{way_for, least_bit, IsPiece}
use Rattle.bit_slice_fields.specs.Segments.{IsSegment}
use Rattle.bit_slice_fields.specs.declared.digits.Segment.{Segment}
use Rattle.bit_slice_fields.proofs.PieceLemmas.{piece_is}
use Rattle.bit_slice_fields.proofs.WeightLemmas.{least_in_segment}

-- the least weight in a segment of which these are all bits
weighs : (low le : Bool) (b h n s e : ℕ) → (low ≡ le → ⊥) → 0 < b → s < e → e ≤ n → segment_start b h s ≡ s
    → segment_end b h n s ≡ e → (if low then n - e else s) ≡ weight low le b h n (least_bit low s e)
weighs true true b h n s e other some order inside start end = absurd (other refl)
weighs false false b h n s e other some order inside start end = absurd (other refl)
weighs true false b h n s e other some order inside start end =
    let sums : n - segment_end b h n s + (s - segment_start b h s) ≡ n - e = omega (arith, start, end) in
    sym (least_in_segment true false b h n s e some order inside (omega (arith, end)) ∙ sums)
weighs false true b h n s e other some order inside start end =
    let sums : segment_start b h s + (segment_end b h n s - e) ≡ s = omega (arith, start, end) in
    sym (least_in_segment false true b h n s e some order inside (omega (arith, end)) ∙ sums)

module _ (b h n place : ℕ) (segment : Segment) (some : 0 < b) (head : h < b) (begins : place % b ≡ h)
    (is : IsSegment b place n segment) where
  -- the place of its word in those of the window
  word_at : (h + segment.from) / b * b + segment.index ≡ h + segment.from
  word_at =
      let s = segment.from in
      let here : place / b * b + (h + s) ≡ segment.word * b + segment.index =
      omega (arith, div-add-mod' place b, begins, is.place) in
      let index : (h + s) % b ≡ segment.index =
      sym (mul-add-mod_self_right (place / b) b (h + s))
      ∙ ap (λ x. x % b) here
      ∙ mod-mul-add segment.word b segment.index (omega (arith, is.some, is.within)) in
      omega (arith, div-add-mod' (h + s) b, index)

  starts : segment_start b h segment.from ≡ segment.from
  starts = elim (cases_lt 0 segment.from) [
    | inl behind ↦ let first = is.begins behind in omega (arith, word_at, first)
    | inr none ↦ omega (arith, word_at)
  ]

  ends : segment_end b h n segment.from ≡ segment.from + segment.len
  ends = elim (cases_lt (segment.from + segment.len) n) [
    | inl before ↦ let last = is.ends before in omega (arith, word_at, last)
    | inr all ↦ omega (arith, word_at, is.within, is.inside)
  ]

  pub segment_piece : (low le : Bool) (w : ℕ) → (low ≡ le → ⊥) → n ≤ 64
      → w ≡ (if low then n - (segment.from + segment.len) else segment.from)
      → IsPiece (weight low le b h n) n (way_for low) segment.from segment.len w
  segment_piece low le w other few is_weight =
      let s = segment.from in
      let e : ℕ = s + segment.len in
      let order : s < e = omega (arith, is.some) in
      let all : e - s ≡ segment.len = omega arith in
      rw all at
      (piece_is low le b h n s e w some order is.inside (omega (arith, is.inside)) (inr (omega (arith, ends)))
      (is_weight ∙ weighs low le b h n s e other some order is.inside starts ends))

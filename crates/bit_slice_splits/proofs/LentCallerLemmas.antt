-- For callers.
--
-- What the writes of a part that `next_mut` lent make of the whole window: `next_written`; that the parts still lie in it:
-- `next_lies`, and where none was left for `nth_mut` `none_lies`; that they come to their end: `next_fewer`.
use Rattle.std.proofs.Common.{◌≡◌, ℕ, ◌+◌, ◌<◌, ◌≤◌, Bool, true, false, cond, true≢false, List, inl, inr, length}
use Rattle.std.proofs.Common.{sym, ap, ◌∙◌, arith, Bor}
use Rattle.std.proofs.lemmas.Bool.{cases_lt}
use Rattle.std.specs.Fn.{Mut}
use Rattle.bit_addressing_memory.specs.Memory.{with_piece}
use Rattle.bit_slice_views_mut.specs.Parts.{IsPart, Windows}
use Rattle.bit_slice_iterators.proofs.CallerLemmas.{lent_written}
use Rattle.bit_slice_splits.specs.Lending.{HasLent}
use Rattle.bit_slice_splits.specs.SplitsMut.{parts_around, parts_whole, KeepsWindow, LiesIn}
use Rattle.bit_slice_splits.specs.Takes.{parts_state, MayFollow}
use Rattle.bit_slice_splits.specs.declared.splits_mut.SplitsMut.{SplitsMut}

module _ {V X S F A B O : Type 0} (of : Windows V X S) (g : Mut F (ℕ × (Bor Bool × Unit {0})) Bool)
    (before after : SplitsMut V F A B S O) (lent last : V) (lies : LiesIn of.reading.bits of.words before)
    (took : HasLent of.place of.bits g before lent after last) (words : of.words lent ≡ of.words before.of.now)
    (lender : of.lender lent ≡ of.lender before.of.now) (kept : of.frame last ≡ of.frame lent)
    (size : length (of.bits last) ≡ length (of.bits lent)) where
  -- a part whose frame stays: the whole window is as it was but for the part's bits, and so is its frame
  pub next_written : (parts_whole of.reading of.words after
      ≡ with_piece (parts_whole of.reading of.words before) after.start (of.bits last))
      × (parts_around of.reading of.lender of.words after ≡ parts_around of.reading of.lender of.words before)
  next_written =
      let part : IsPart of before.of.now (before.head + after.start) after.size lent =
      record { words = words; lender = lender; place = took.lent_place; len = took.lent_len } in
      let inside : after.start + after.size ≤ before.len = omega (arith, took.lent_within, took.len_is) in
      let many : length (of.bits last) ≡ after.size = size ∙ took.lent_len in
      rw (took.view_is, took.place_is, took.len_is) (
      lent_written of before.of.now lent last before.head before.len after.start after.size part kept many inside
      lies.fits)

  -- and the parts lie in it still
  pub next_lies : LiesIn of.reading.bits of.words after
  next_lies =
      let many : length (of.words last) ≡ length (of.words before.of.now) =
      ap (λ f. f.words) (sym (of.framed last) ∙ kept ∙ of.framed lent) ∙ ap length words in
      record {
        left = took.left_within;
        found = took.lent_within;
        fits = rw (took.view_is, took.place_is, took.len_is, many) lies.fits;
        short = rw took.len_is lies.short;
        small = rw (took.place_is, took.len_is) lies.small;
      }

-- fewer bits are left then, or no part is
pub next_fewer : {V F A B S O : Type 0} (place : V → ℕ) (bits : V → List Bool)
    (g : Mut F (ℕ × (Bor Bool × Unit {0})) Bool) (before after : SplitsMut V F A B S O) (lent last : V)
    → before.done ≡ false → HasLent place bits g before lent after last
    → cond after.done 0 (after.count + 1) < cond before.done 0 (before.count + 1)
next_fewer place bits g before after lent last going took = fewer before.done after.done going took.shorter
  where
    fewer : {n left : ℕ} (was is : Bool) → was ≡ false → (n ≤ left → is ≡ true)
        → cond is 0 (left + 1) < cond was 0 (n + 1)
    fewer true is going shorter = absurd (true≢false going)
    fewer false true going shorter = omega arith
    fewer {n} {left} false false going shorter = elim (cases_lt left n) [
      | inl less ↦ omega arith
      | inr more ↦ absurd (true≢false (sym (shorter more)))
    ]

-- where no part was left, the parts lie in the window still
pub none_lies : {V F A B S O X : Type 0} (b : ℕ) (lender : V → X) (words : V → List S)
    (g : Mut F (ℕ × (Bor Bool × Unit {0})) Bool) (before after : SplitsMut V F A B S O) → LiesIn b words before
    → KeepsWindow lender words before after → MayFollow g (parts_state after) → LiesIn b words after
none_lies b lender words g before after lies kept follow = record {
  left = follow.left;
  found = follow.found;
  fits = rw (kept.place_is, kept.len_is, kept.words_are) lies.fits;
  short = rw kept.len_is lies.short;
  small = rw (kept.place_is, kept.len_is) lies.small;
}

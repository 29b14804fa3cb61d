-- A stretch turned round bit by bit, by exchanges from its two ends.
use Rattle.bit_addressing_memory.proofs.Common.{◌≡◌, ℕ, ◌+◌, ◌-◌, ◌*◌, ◌/◌, ◌<◌, List, refl, sym, ap, ◌∙◌, inl, inr}
use Rattle.bit_addressing_memory.proofs.Common.{arith, cases_lt, Reading, entry, Swaps}
use Rattle.bit_slice_paths.specs.Mirrored.{Mirrored}
pub use Rattle.bit_slice_paths.proofs.MirrorLemmas.{mirrored_none, mirrored_more, mirrored_all}

-- two bits exchanged, as the ends of a stretch
swapped_ends : {R : Type 0} (reading : Reading R) (now after : List R) (first last m : ℕ) → 0 < m
    → last + 1 ≡ first + m → Swaps reading now after first last 1 → Mirrored reading now after first m 1
swapped_ends reading now after first last m some is swapped = record {
  front = λ k low.
      let there : last + k ≡ first + (m - 1 - k) = omega arith in
      swapped.to_first k low ∙ ap (entry reading now) there;
  back = λ k low.
      let there : last + k ≡ first + (m - 1 - k) = omega arith in
      ap (entry reading after) (sym there) ∙ swapped.to_second k low;
  others = λ p h g. swapped.others p h (λ le. elim (cases_lt p (first + m)) [
    | inl inside ↦ let near = g inside in omega arith
    | inr out ↦ omega arith
  ]);
  words = swapped.words;
}

-- one more exchange
pub mirrored_step : {R : Type 0} (reading : Reading R) (before now after : List R) (place n i : ℕ)
    → i < n / 2 → Mirrored reading before now place n i
    → Swaps reading now after (place + i) (place + (n - 1 - i)) 1
    → Mirrored reading before after place n (i + 1)
mirrored_step reading before now after place n i low had swapped =
    mirrored_more reading before now after place n i (place + i) (n - 2 * i) 1 (i + 1) refl (omega arith) (omega arith) refl
    had (swapped_ends reading now after (place + i) (place + (n - 1 - i)) (n - 2 * i) (omega arith) (omega arith) swapped)

pub ruleset mirror_steps = (mirrored_none, mirrored_step, mirrored_all)

-- A stretch rotated: its two parts turned round, and then the whole.
use Rattle.bit_addressing_memory.proofs.Common.{◌≡◌, ℕ, ◌+◌, ◌-◌, ◌≤◌, List, sym, ap, ◌∙◌, inl, inr, arith, cases_lt}
use Rattle.bit_addressing_memory.proofs.Common.{Reading, entry, Overwrites}
use Rattle.bit_slice_paths.specs.Rotations.{rotated_from}
use Rattle.bit_slice_paths.proofs.RotationLemmas.{rotated_from_on, rotated_from_over}

-- the two parts turned round, and then the whole
pub rotated : {R : Type 0} (reading : Reading R) (before mid now after : List R) (place n by : ℕ) → by ≤ n
    → Overwrites reading before mid place by (λ k. entry reading before (place + (by - 1 - k)))
    → Overwrites reading mid now (place + by) (n - by) (λ k. entry reading mid (place + by + (n - by - 1 - k)))
    → Overwrites reading now after place n (λ k. entry reading now (place + (n - 1 - k)))
    → Overwrites reading before after place n (λ k. entry reading before (place + rotated_from n by k))
rotated reading before mid now after place n by most front back whole = record {
  there = λ k small. whole.there k small ∙ elim (cases_lt (k + by) n) [
    | inl on ↦
        let j : ℕ = n - by - 1 - k in
        let here : place + (n - 1 - k) ≡ place + by + j = omega arith in
        let mirror : place + by + (n - by - 1 - j) ≡ place + (k + by) = omega arith in
        ap (entry reading now) here
        ∙ back.there j (omega arith)
        ∙ ap (entry reading mid) mirror
        ∙ front.above (place + (k + by)) (omega arith)
        ∙ ap (λ i. entry reading before (place + i)) (sym (rotated_from_on n by k on))
    | inr over ↦
        let j : ℕ = n - 1 - k in
        let mirror : by - 1 - j ≡ k + by - n = omega arith in
        back.below (place + j) (omega arith)
        ∙ front.there j (omega arith)
        ∙ ap (λ i. entry reading before (place + i)) (mirror ∙ sym (rotated_from_over n by k over))
  ];
  below = λ p low. whole.below p low ∙ back.below p (omega arith) ∙ front.below p low;
  above = λ p high. whole.above p high ∙ back.above p (omega arith) ∙ front.above p (omega arith);
  words = whole.words ∙ back.words ∙ front.words;
}

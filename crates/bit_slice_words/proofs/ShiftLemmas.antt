-- A stretch shifted: a part of it moved, and the rest filled.
use Rattle.bit_addressing_memory.proofs.Common.{◌≡◌, ℕ, ◌+◌, ◌-◌, ◌<◌, ◌≤◌, false, List, sym, ap, ◌∙◌, inl, inr, arith}
use Rattle.bit_addressing_memory.proofs.Common.{cases_lt, lt-ltb, le-ltb, Reading, entry, Overwrites, Copies}
use Rattle.std.specs.Prelude.{if◌then◌else◌, nat_lt}
use Rattle.bit_addressing_memory.proofs.PartsLemmas.{stores_as}

-- what a test that holds picks
pub then_of : {X : Type 0} (m n : ℕ) (x y : X) → m < n → (if nat_lt m n then x else y) ≡ x
then_of m n x y h = ap (λ t. if t then x else y) (lt-ltb m n h)

-- and one that does not
pub else_of : {X : Type 0} (m n : ℕ) (x y : X) → n ≤ m → (if nat_lt m n then x else y) ≡ y
else_of m n x y h = ap (λ t. if t then x else y) (le-ltb m n h)

-- towards the start, so far that nothing is left
pub shifted_left_out : {R : Type 0} (reading : Reading R) (before after : List R) (place n by : ℕ) → n ≤ by
    → Overwrites reading before after place n (λ _. false)
    → Overwrites reading before after place n
    (λ k. if nat_lt (k + by) n then entry reading before (place + (k + by)) else false)
shifted_left_out reading before after place n by far is =
    stores_as reading before after place n (λ _. false)
    (λ k. if nat_lt (k + by) n then entry reading before (place + (k + by)) else false) is
    (λ k small. sym (else_of (k + by) n (entry reading before (place + (k + by))) false (omega arith)))

-- towards the start
pub shifted_left : {R : Type 0} (reading : Reading R) (before mid after : List R) (place n by kept : ℕ) → by < n
    → kept ≡ n - by → Copies reading before mid reading before (place + by) place kept
    → Overwrites reading mid after (place + kept) by (λ _. false)
    → Overwrites reading before after place n
    (λ k. if nat_lt (k + by) n then entry reading before (place + (k + by)) else false)
shifted_left reading before mid after place n by kept near is_kept moved filled = record {
  there = λ k small. elim (cases_lt (k + by) n) [
    | inl on ↦
        let at : place + by + k ≡ place + (k + by) = omega arith in
        filled.below (place + k) (omega arith)
        ∙ moved.there k (omega arith)
        ∙ ap (entry reading before) at
        ∙ sym (then_of (k + by) n (entry reading before (place + (k + by))) false on)
    | inr out ↦
        let at : place + kept + (k - kept) ≡ place + k = omega arith in
        ap (entry reading after) (sym at)
        ∙ filled.there (k - kept) (omega arith)
        ∙ sym (else_of (k + by) n (entry reading before (place + (k + by))) false out)
  ];
  below = λ p low. filled.below p (omega arith) ∙ moved.below p low;
  above = λ p high. filled.above p (omega arith) ∙ moved.above p (omega arith);
  words = filled.words ∙ moved.words;
}

-- towards the end, so far that nothing is left
pub shifted_right_out : {R : Type 0} (reading : Reading R) (before after : List R) (place n by : ℕ) → n ≤ by
    → Overwrites reading before after place n (λ _. false)
    → Overwrites reading before after place n
    (λ k. if nat_lt k by then false else entry reading before (place + (k - by)))
shifted_right_out reading before after place n by far is =
    stores_as reading before after place n (λ _. false)
    (λ k. if nat_lt k by then false else entry reading before (place + (k - by))) is
    (λ k small. sym (then_of k by false (entry reading before (place + (k - by))) (omega arith)))

-- towards the end
pub shifted_right : {R : Type 0} (reading : Reading R) (before mid after : List R) (place n by : ℕ) → by < n
    → Copies reading before mid reading before place (place + by) (n - by)
    → Overwrites reading mid after place by (λ _. false)
    → Overwrites reading before after place n
    (λ k. if nat_lt k by then false else entry reading before (place + (k - by)))
shifted_right reading before mid after place n by near moved filled = record {
  there = λ k small. elim (cases_lt k by) [
    | inl first ↦
        filled.there k first
        ∙ sym (then_of k by false (entry reading before (place + (k - by))) first)
    | inr later ↦
        let at : place + by + (k - by) ≡ place + k = omega arith in
        filled.above (place + k) (omega arith)
        ∙ ap (entry reading mid) (sym at)
        ∙ moved.there (k - by) (omega arith)
        ∙ sym (else_of k by false (entry reading before (place + (k - by))) later)
  ];
  below = λ p low. filled.below p low ∙ moved.below p (omega arith);
  above = λ p high. filled.above p (omega arith) ∙ moved.above p (omega arith);
  words = filled.words ∙ moved.words;
}

pub ruleset shift_steps = (shifted_left_out, shifted_left, shifted_right_out, shifted_right)

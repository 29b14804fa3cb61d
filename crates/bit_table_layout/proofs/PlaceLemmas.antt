-- The first place at which a test passes, as `position` answers it.
use Rattle.std.proofs.Common.{◌≡◌, ℕ, suc, ◌+◌, ◌-◌, ◌<◌, ◌≤◌, not, ltb, cond, Bool, true, false, List, ◌∷◌, length}
use Rattle.std.proofs.Common.{take, drop, Option, Some, None, arith, ap, ◌∙◌, inl, inr}
use Rattle.std.specs.List.{position_or_len}
use Rattle.std.specs.Option.{unwrap_or}
use Rattle.std.proofs.lemmas.List.{length-drop, take_all}
use Rattle.std.proofs.lemmas.List.Sums.{prefix_len-le-length}
use Rattle.std.proofs.lemmas.Bool.{cases_lt, cond-true, cond-false, lt-ltb, le-ltb}

-- a test that passes at the first element
pub position-hit : (test : ℕ → Bool) (b : ℕ) (line : List ℕ) → test b ≡ true → position_or_len test (b ∷ line) ≡ 0
position-hit test b line is = cond-false (not (test b)) _ _ (ap not is)

one_more : (n : ℕ) → 1 + n ≡ suc n
one_more n = omega arith

-- a test that fails at the first element
pub position-miss : (test : ℕ → Bool) (b : ℕ) (line : List ℕ) → test b ≡ false
    → position_or_len test (b ∷ line) ≡ suc (position_or_len test line)
position-miss test b line not' = cond-true (not (test b)) _ _ (ap not not') ∙ one_more (position_or_len test line)

-- what `position` answers
abbrev pub position_in : (ℕ → Bool) → List ℕ → Option ℕ
position_in test line = cond (ltb (position_or_len test line) (length line)) (Some (position_or_len test line)) None

pub position_in-None : (test : ℕ → Bool) (line : List ℕ) → position_in test line ≡ None
    → length line ≤ position_or_len test line
position_in-None test line none =
    elim (cases_lt (position_or_len test line) (length line)) [
      | inl below ↦
          let some : position_in test line ≡ Some (position_or_len test line) = cond-true _ _ _ (lt-ltb _ _ below) in
          absurd cc
      | inr past ↦ past
    ]

pub position_in-Some : (test : ℕ → Bool) (line : List ℕ) (at : ℕ) → position_in test line ≡ Some at
    → (at ≡ position_or_len test line) × (at < length line)
position_in-Some test line at some =
    elim (cases_lt (position_or_len test line) (length line)) [
      | inl below ↦
          let found : position_in test line ≡ Some (position_or_len test line) = cond-true _ _ _ (lt-ltb _ _ below) in
          let same : at ≡ position_or_len test line = cc in
          (same, omega arith)
      | inr past ↦ let none : position_in test line ≡ None = cond-false _ _ _ (le-ltb _ _ past) in absurd cc
    ]

pub position_in-unwrap : (test : ℕ → Bool) (line : List ℕ)
    → unwrap_or (position_in test line) (length line) ≡ position_or_len test line
position_in-unwrap test line =
    elim (cases_lt (position_or_len test line) (length line)) [
      | inl below ↦ ap (λ found. unwrap_or found (length line)) (cond-true _ _ _ (lt-ltb _ _ below))
      | inr past ↦
          let within : position_or_len test line ≤ length line = prefix_len-le-length (λ b. not (test b)) line in
          let end : length line ≡ position_or_len test line = omega arith in
          ap (λ found. unwrap_or found (length line)) (cond-false _ _ _ (le-ltb _ _ past)) ∙ end
    ]

-- what stands from a place on
pub whole_rest : (line : List ℕ) (n : ℕ) → take (length line - n) (drop n line) ≡ drop n line
whole_rest line n =
    let long = length-drop n line in
    take_all (length line - n) (drop n line) (omega arith)

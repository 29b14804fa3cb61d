-- How many parts come at most after one came off: `fewer_parts`. Where both ends keep the bits at the cuts, each does:
-- `both_left`, `both_right`.
use Rattle.std.proofs.Common.{◌≡◌, ℕ, ◌<◌, ◌≤◌, ◌&&◌, Bool, true, false, true≢false, cond, sym, refl, inl, inr, arith}
use Rattle.std.proofs.lemmas.Bool.{cases_lt}
use Rattle.bit_slice_splits.specs.Ways.{parts_at_most}

-- fewer than before
pub fewer_parts : (inclusive last : Bool) (n rest : ℕ) → (n ≤ rest → last ≡ true)
    → (inclusive ≡ true → rest ≡ 0 → last ≡ true) → cond last 0 (parts_at_most inclusive rest) < parts_at_most inclusive n
fewer_parts true true n rest shorter some = omega arith
fewer_parts false true n rest shorter some = omega arith
fewer_parts false false n rest shorter some = elim (cases_lt rest n) [
  | inl less ↦ omega arith
  | inr more ↦ absurd (true≢false (sym (shorter more)))
]
fewer_parts true false n rest shorter some = elim (cases_lt rest n) [
  | inl less ↦ elim (cases_lt 0 rest) [
    | inl there ↦ omega arith
    | inr none ↦ absurd (true≢false (sym (some refl (omega arith))))
  ]
  | inr more ↦ absurd (true≢false (sym (shorter more)))
]

-- both are true, so each is
pub both_left : (a b : Bool) → (a && b) ≡ true → a ≡ true
both_left true b both = refl
both_left false b both = both

pub both_right : (a b : Bool) → (a && b) ≡ true → b ≡ true
both_right true b both = both
both_right false b both = absurd (true≢false (sym both))

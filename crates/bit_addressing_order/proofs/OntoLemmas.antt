-- A lawful order's `at` is also onto: each position is that of an index.
use Rattle.std.proofs.Common.{◌≡◌, ◌≢◌, ℕ, zero, suc, ◌<◌, ◌≤◌, ◌⊎◌, cond, eqb, eq-eqb, ne_eqb, sym, ◌∙◌, ap, inl}
use Rattle.std.proofs.Common.{inr, arith}
use Rattle.std.proofs.lemmas.Bool.{cases_lt, cases_eq}

-- x, but v in the place of n
abbrev moved : ℕ → ℕ → ℕ → ℕ
moved n v x = cond (eqb x n) v x

moved_same : (n v x : ℕ) → x ≡ n → moved n v x ≡ v
moved_same n v x e = ap (λ b. cond b v x) (eq-eqb x n e)

moved_other : (n v x : ℕ) → x ≢ n → moved n v x ≡ x
moved_other n v x ne = ap (λ b. cond b v x) (ne_eqb x n ne)

-- f misses v and has its values up to n: with v in the place of n it has them below n, and still apart
module _ (n v m : ℕ) (f : ℕ → ℕ) (small : v ≤ n)
    (within : (i : ℕ) → i < m → f i ≤ n)
    (apart : (i j : ℕ) → i < m → j < m → f i ≡ f j → i ≡ j)
    (missed : (i : ℕ) → i < m → f i ≢ v) where
  moved_within : (i : ℕ) → i < m → moved n v (f i) < n
  moved_within i lt = elim (cases_eq (f i) n) [
    | inl same ↦
        let other : v ≢ n = λ e. missed i lt (same ∙ sym e) in
        omega (arith, moved_same n v (f i) same)
    | inr other ↦ omega (arith, moved_other n v (f i) other, within i lt)
  ]

  moved_apart : (i j : ℕ) → i < m → j < m → moved n v (f i) ≡ moved n v (f j) → i ≡ j
  moved_apart i j li lj e = elim (cases_eq (f i) n) [
    | inl last_i ↦ elim (cases_eq (f j) n) [
      | inl last_j ↦ apart i j li lj (last_i ∙ sym last_j)
      | inr other_j ↦ absurd (missed j lj (sym (moved_other n v (f j) other_j) ∙ sym e ∙ moved_same n v (f i) last_i))
    ]
    | inr other_i ↦ elim (cases_eq (f j) n) [
      | inl last_j ↦ absurd (missed i li (sym (moved_other n v (f i) other_i) ∙ e ∙ moved_same n v (f j) last_j))
      | inr other_j ↦ apart i j li lj (sym (moved_other n v (f i) other_i) ∙ e ∙ moved_other n v (f j) other_j)
    ]
  ]

-- more indices than places: two share one
crowded : (n : ℕ) (f : ℕ → ℕ) → ((i : ℕ) → i < suc n → f i < n)
    → ((i j : ℕ) → i < suc n → j < suc n → f i ≡ f j → i ≡ j) → ⊥
crowded zero f within apart = omega (arith, within 0 (omega arith))
crowded (suc n) f within apart =
    let last = f (suc n) in
    let small : last ≤ n = omega (arith, within (suc n) (omega arith)) in
    let front : (i : ℕ) → i < suc n → f i ≤ n = λ i lt. omega (arith, within i (omega arith)) in
    let kept : (i j : ℕ) → i < suc n → j < suc n → f i ≡ f j → i ≡ j =
    λ i j li lj. apart i j (omega arith) (omega arith) in
    let missed : (i : ℕ) → i < suc n → f i ≢ last = λ i lt e.
    let same : i ≡ suc n = apart i (suc n) (omega arith) (omega arith) e in omega arith in
    crowded n (λ i. moved n last (f i))
    (moved_within n last (suc n) f small front kept missed)
    (moved_apart n last (suc n) f small front kept missed)

-- an index below n with that position, or none
find : (at : ℕ → ℕ) (p n : ℕ) → ((i : ℕ) × (i < n) × (at i ≡ p)) ⊎ ((i : ℕ) → i < n → at i ≢ p)
find at p zero = inr (λ i lt e. omega arith)
find at p (suc n) = elim (cases_eq (at n) p) [
  | inl here ↦ inl (n, omega arith, here)
  | inr other ↦ elim (find at p n) [
    | inl w ↦ inl (w.0, omega arith, w.2)
    | inr none ↦ inr (λ i lt e. elim (cases_lt i n) [
      | inl low ↦ none i low e
      | inr high ↦ let same : i ≡ n = omega arith in other (ap at (sym same) ∙ e)
    ])
  ]
]

-- what is one to one from the numbers below `bits` into them is onto them
pub onto : (bits : ℕ) (at : ℕ → ℕ) → ((i : ℕ) → i < bits → at i < bits)
    → ((i j : ℕ) → i < bits → j < bits → at i ≡ at j → i ≡ j)
    → (p : ℕ) → p < bits → (i : ℕ) × (i < bits) × (at i ≡ p)
onto zero at within apart p lt = absurd (omega arith)
onto (suc n) at within apart p lt = elim (find at p (suc n)) [
  | inl found ↦ found
  | inr missed ↦
      let small : p ≤ n = omega arith in
      let front : (i : ℕ) → i < suc n → at i ≤ n = λ i below. omega (arith, within i below) in
      absurd (crowded n (λ i. moved n p (at i))
      (moved_within n p (suc n) at small front apart missed)
      (moved_apart n p (suc n) at small front apart missed))
]

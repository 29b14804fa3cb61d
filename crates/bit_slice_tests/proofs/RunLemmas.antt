-- Runs of zeros, taken off one by one.
use Rattle.std.proofs.Common.{◌≡◌, ℕ, zero, suc, ◌+◌, ◌-◌, ◌<◌, ◌≤◌, Bool, true, false, not, cond, nat_eq, List, [], ◌∷◌}
use Rattle.std.proofs.Common.{length, drop, get_or, count_by, refl, sym, ap, ◌∙◌, inl, inr, arith, true≢false}
use Rattle.std.proofs.lemmas.Bool.{cases_lt}
use Rattle.std.proofs.lemmas.List.{drop_all, length-drop, take_all}
use Rattle.std.proofs.lemmas.List.Sums.{sum_by-cons}
use Rattle.bit_addressing_memory.specs.Memory.{piece}
use Rattle.bit_addressing_memory.proofs.MemoryLemmas.{piece_none}
use Rattle.bit_slice_tests.proofs.FilledLemmas.{other_number, same_number}

abbrev zeros : List Bool → ℕ
zeros xs = count_by (λ b. not b) xs

zeros_cons : (x : Bool) (xs : List Bool) → zeros (x ∷ xs) ≡ cond (not x) 1 0 + zeros xs
zeros_cons x xs = sum_by-cons (λ b. cond (not b) 1 0) x xs

-- so many zeros come first, and then a one, unless all are zeros
zeros_first : (bits : List Bool) (m : ℕ) → m ≤ length bits → ((k : ℕ) → k < m → get_or bits k false ≡ false)
    → (m < length bits → get_or bits m false ≡ true) → zeros bits ≡ m + zeros (drop (m + 1) bits)
zeros_first [] zero low before there = refl
zeros_first [] (suc m) low before there = absurd (omega arith)
zeros_first (x ∷ xs) zero low before there =
    let one : x ≡ true = there (omega arith) in
    zeros_cons x xs ∙ rw one refl
zeros_first (x ∷ xs) (suc m) low before there =
    let none : x ≡ false = before 0 (omega arith) in
    let rest : zeros xs ≡ m + zeros (drop (m + 1) xs) =
    zeros_first xs m (omega arith) (λ k lower. before (suc k) (omega arith)) (λ lower. there (omega arith)) in
    let next : suc m + 1 ≡ suc (m + 1) = omega arith in
    let first : zeros (x ∷ xs) ≡ 1 + zeros xs = zeros_cons x xs ∙ rw none refl in
    rw next (omega (arith, first, rest))

-- what lies behind a bit of a list
behind : (bits : List Bool) (m : ℕ) → m < length bits → piece bits (m + 1) (length bits - (m + 1)) ≡ drop (m + 1) bits
unfolding piece
behind bits m more = take_all (length bits - (m + 1)) (drop (m + 1) bits) (omega (arith, length-drop (m + 1) bits))

-- the same of what a split leaves
pub run_off : (bits rest : List Bool) (m : ℕ) → m ≤ length bits → ((k : ℕ) → k < m → get_or bits k false ≡ false)
    → (m < length bits → get_or bits m false ≡ true)
    → rest ≡ piece bits (cond (nat_eq m (length bits)) (length bits) (m + 1)) (length bits - (m + 1))
    → count_by (λ b. not b) bits ≡ m + count_by (λ b. not b) rest
run_off bits rest m low before there is =
    elim (cases_lt m (length bits)) [
      | inl more ↦
          let here : rest ≡ piece bits (m + 1) (length bits - (m + 1)) =
          rw (other_number m (length bits) more) at is in
          zeros_first bits m low before there ∙ ap (λ xs. m + zeros xs) (sym (here ∙ behind bits m more))
      | inr all ↦
          let here : rest ≡ piece bits (length bits) (length bits - (m + 1)) =
          rw (same_number m (length bits) (omega arith)) at is in
          let none : rest ≡ [] = here ∙ piece_none bits (length bits) (length bits - (m + 1)) (omega arith) in
          zeros_first bits m low before there
          ∙ ap (λ xs. m + zeros xs) (drop_all (m + 1) bits (omega arith) ∙ sym none)
    ]

-- nothing is left behind the last part
pub last_left : (bits rest : List Bool) (m : ℕ) (last : Bool) → m ≤ length bits
    → rest ≡ piece bits (cond (nat_eq m (length bits)) (length bits) (m + 1)) (length bits - (m + 1))
    → last ≡ nat_eq m (length bits) → last ≡ true → rest ≡ []
last_left bits rest m last low is ends ended =
    elim (cases_lt m (length bits)) [
      | inl more ↦ absurd (true≢false (sym ended ∙ ends ∙ other_number m (length bits) more))
      | inr all ↦
          let here : rest ≡ piece bits (length bits) (length bits - (m + 1)) =
          rw (same_number m (length bits) (omega arith)) at is in
          here ∙ piece_none bits (length bits) (length bits - (m + 1)) (omega arith)
    ]

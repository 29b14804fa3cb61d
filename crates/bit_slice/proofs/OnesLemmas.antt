-- How many ones a part of a list has, and where one has so many others before it.
use Rattle.std.proofs.Common.{◌≡◌, ℕ, zero, suc, ◌+◌, ◌<◌, ◌≤◌, Bool, true, false, cond, List, [], ◌∷◌}
use Rattle.std.proofs.Common.{length, get_or, count_by, take, refl, ap, ◌∙◌, arith}
use Rattle.std.proofs.Math.Seq.{take-nil, drop-nil}
use Rattle.std.proofs.lemmas.List.Sums.{sum_by-cons, sum_by_more}
use Rattle.bit_addressing_memory.specs.Memory.{piece}

-- how many of the first bits are 1
abbrev pub ones_in : List Bool → ℕ → ℕ
ones_in xs n = count_by (λ b. b) (take n xs)

first_one : (x : Bool) (xs : List Bool) (n : ℕ) → ones_in (x ∷ xs) (suc n) ≡ cond x 1 0 + ones_in xs n
first_one x xs n = sum_by-cons (λ b. cond b 1 0) x (take n xs)

-- a part begun where the first bits end
pub ones-piece : (xs : List Bool) (p n : ℕ) → ones_in xs p + count_by (λ b. b) (piece xs p n) ≡ ones_in xs (p + n)
unfolding piece
ones-piece [] p n = simp (take-nil, drop-nil)
ones-piece (x ∷ xs) zero n = let same : 0 + n ≡ n = omega arith in rw same (omega arith)
ones-piece (x ∷ xs) (suc p) n =
    let same : suc p + n ≡ suc (p + n) = omega arith in
    rw same (omega (arith, first_one x xs p, first_one x xs (p + n), ones-piece xs p n))

is_one : (b : Bool) (n : ℕ) → n < n + cond b 1 0 → b ≡ true
is_one true n low = refl
is_one false n low = absurd (omega arith)

-- whether a bit is 1
pub one_found : (xs : List Bool) (p : ℕ) → p < length xs → ones_in xs p < ones_in xs (p + 1) → get_or xs p false ≡ true
one_found xs p low more =
    let step : ones_in xs (p + 1) ≡ ones_in xs p + cond (get_or xs p false) 1 0 =
    sum_by_more (λ b. cond b 1 0) xs p false low in
    is_one (get_or xs p false) (ones_in xs p) (omega (arith, step, more))

-- a part of at most one bit, which has the 1 that so many others are before
pub last_left : (xs : List Bool) (p n left ones : ℕ) → p + n ≤ length xs → n ≤ 1 → ones_in xs p + left ≡ ones
    → ones < ones_in xs (p + n) → (get_or xs p false ≡ true) × (ones_in xs p ≡ ones)
last_left xs p zero left ones low short before more =
    let same : p + 0 ≡ p = omega arith in
    let none : ones_in xs (p + 0) ≡ ones_in xs p = ap (ones_in xs) same in
    absurd (omega arith)
last_left xs p (suc n) left ones low short before more =
    let single : suc n ≡ 1 = omega arith in
    let next : ones_in xs (p + suc n) ≡ ones_in xs (p + 1) = ap (λ k. ones_in xs (p + k)) single in
    let step : ones_in xs (p + 1) ≡ ones_in xs p + cond (get_or xs p false) 1 0 =
    sum_by_more (λ b. cond b 1 0) xs p false (omega arith) in
    let one : get_or xs p false ≡ true = one_found xs p (omega arith) (omega arith) in
    let is : ones_in xs (p + 1) ≡ ones_in xs p + 1 = step ∙ ap (λ b. ones_in xs p + cond b 1 0) one in
    (one, omega arith)

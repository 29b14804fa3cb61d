-- A number by its digits.
use Rattle.std.proofs.Common.{◌≡◌, ℕ, zero, suc, ◌*◌, ◌/◌, ◌%◌, ◌^◌, ◌<◌, ◌≤◌, ◌==◌, Bool, true, false, cond, List}
use Rattle.std.proofs.Common.{[], ◌∷◌}
use Rattle.std.proofs.Common.{length, get_or, sym, ap, ◌∙◌, arith}
use Rattle.std.proofs.Math.Nat.{pow-suc}
use Rattle.std.proofs.lemmas.Bool.Decides.{nat_tests}
use Rattle.std.proofs.lemmas.Nat.Bits.{bit_at_lowest, bit_at-suc}
use Rattle.std.specs.Int.{bit_at}
use Rattle.register_map.specs.Registers.{number_of}

lowest_digit : (n : ℕ) (b : Bool) → (bit_at n 0 == 1) ≡ b → cond b 1 0 ≡ n % 2
lowest_digit n true is = let e : bit_at n 0 ≡ n % 2 = bit_at_lowest n in grind (arith, nat_tests)
lowest_digit n false is = let e : bit_at n 0 ≡ n % 2 = bit_at_lowest n in grind (arith, nat_tests)

-- digits that are those of a number, below a power of two that has room for all, tell the number
pub number_of_digits : (m n : ℕ) (bits : List Bool) → n < 2 ^ m → length bits ≤ m
    → ((i : ℕ) → i < m → (bit_at n i == 1) ≡ get_or bits i false) → number_of bits ≡ n
number_of_digits zero n [] low short same = omega arith
number_of_digits zero n (b ∷ bs) low short same = absurd (omega arith)
number_of_digits (suc m) n [] low short same =
    let power : 2 ^ suc m ≡ 2 ^ m * 2 = pow-suc 2 m in
    let rest : 0 ≡ n / 2 =
    number_of_digits m (n / 2) [] (omega arith) (omega arith)
    (λ i h. ap (λ d. d == 1) (sym (bit_at-suc n i)) ∙ same (suc i) (omega arith)) in
    let lowest : 0 ≡ n % 2 = lowest_digit n false (same 0 (omega arith)) in
    omega arith
number_of_digits (suc m) n (b ∷ bs) low short same =
    let power : 2 ^ suc m ≡ 2 ^ m * 2 = pow-suc 2 m in
    let rest : number_of bs ≡ n / 2 =
    number_of_digits m (n / 2) bs (omega arith) (omega arith)
    (λ i h. ap (λ d. d == 1) (sym (bit_at-suc n i)) ∙ same (suc i) (omega arith)) in
    let lowest : cond b 1 0 ≡ n % 2 = lowest_digit n b (same 0 (omega arith)) in
    omega arith

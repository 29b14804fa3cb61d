-- Numbers that are prime, and that are not, so that a wrong definition does not check.
use Rattle.std.proofs.Common.{◌≢◌, ℕ, ◌*◌, ◌<◌, ◌≤◌, refl, arith, lit≤}
use Rattle.std.proofs.Math.Nat.{mul-le-mul}
use Rattle.number_set.specs.Primes.{IsPrime}

-- a product of two numbers from 2 on is at least 4
four : (p : ℕ) → p < 4 → (a b : ℕ) → 2 ≤ a → 2 ≤ b → a * b ≢ p
four p low a b two_a two_b is =
    let least : 2 * 2 ≤ a * b = mul-le-mul two_a two_b in
    omega arith

two_is : IsPrime 2
two_is = record { least = lit≤ tt; no_product = four 2 (omega arith) }

three_is : IsPrime 3
three_is = record { least = lit≤ tt; no_product = four 3 (omega arith) }

zero_is_not : IsPrime 0 → ⊥
zero_is_not prime = let least : 2 ≤ 0 = prime.least in omega arith

one_is_not : IsPrime 1 → ⊥
one_is_not prime = let least : 2 ≤ 1 = prime.least in omega arith

four_is_not : IsPrime 4 → ⊥
four_is_not prime = prime.no_product 2 2 (lit≤ tt) (lit≤ tt) refl

ninety_one_is_not : IsPrime 91 → ⊥
ninety_one_is_not prime = prime.no_product 7 13 (lit≤ tt) (lit≤ tt) refl

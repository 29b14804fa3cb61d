-- How long a list is so many times.
use Rattle.std.proofs.Common.{◌≡◌, ℕ, zero, suc, ◌+◌, ◌*◌, ◌<◌, ◌≤◌, Bool, List, length, length-append, arith, ap, ◌∙◌}
use Rattle.std.proofs.Math.Nat.{mul-le-mul_right}
use Rattle.bit_containers.specs.Repeated.{repeated}

pub length-repeated : (n : ℕ) (xs : List Bool) → length (repeated n xs) ≡ n * length xs
length-repeated zero xs = omega arith
length-repeated (suc n) xs =
    length-append (repeated n xs) xs
    ∙ ap (λ k. k + length xs) (length-repeated n xs)
    ∙ omega arith

-- once more is still within so many times
pub once_more : (i n most : ℕ) (xs : List Bool) → i < n → n * length xs ≤ most
    → length (repeated i xs) + length xs ≤ most
once_more i n most xs low fits =
    let steps : (i + 1) * length xs ≤ n * length xs = mul-le-mul_right (length xs) (omega (arith, low)) in
    omega (arith, length-repeated i xs, steps, fits)

-- Where pieces lie in a list.
use Rattle.std.proofs.Common.{◌≡◌, ℕ, ◌+◌, ◌*◌, ◌/◌, ◌%◌, ◌<◌, ◌≤◌, arith}
use Rattle.std.proofs.Math.Nat.{mul-le-mul_right, suc-mul}
use Rattle.std.proofs.lemmas.Nat.{div-add-mod'}
use Rattle.std.specs.Int.{div_ceil}
use Rattle.std.proofs.lemmas.Grind.{div_ceil_times}

-- a whole piece ends inside
pub exact_within : (n k j : ℕ) → 0 < k → j < n / k → j * k + k ≤ n
exact_within n k j some lt =
    let at : n / k * k + n % k ≡ n = div-add-mod' n k in
    let more : (j + 1) * k ≤ n / k * k = mul-le-mul_right k (omega arith) in
    omega (arith, suc-mul j k)

-- any piece begins inside
pub ceil_within : (n k j : ℕ) → 0 < k → j < div_ceil n k → j * k < n
ceil_within n k j some lt =
    let more : (j + 1) * k ≤ div_ceil n k * k = mul-le-mul_right k (omega arith) in
    omega (arith, suc-mul j k, (div_ceil_times n k some).1)

-- what whole pieces leave is no more than all
pub rest_within : (n k : ℕ) → n % k ≤ n
rest_within n k = let at : n / k * k + n % k ≡ n = div-add-mod' n k in omega arith

pub ruleset cuts = (exact_within, ceil_within, rest_within)

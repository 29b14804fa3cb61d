-- The words that a window touches.
use Rattle.std.proofs.Common.{◌≡◌, ℕ, zero, suc, ◌+◌, ◌-◌, ◌*◌, ◌/◌, ◌<◌, ◌≤◌, refl, arith}
use Rattle.std.proofs.Math.Nat.{div-lt_iff_lt-mul, div-le_of_le-mul}
use Rattle.bit_addressing_memory.specs.Memory.{touched}

-- how many, where there are bits
pub touched_some : (b place n : ℕ) → 0 < n → touched b place n ≡ (place + n - 1) / b + 1 - place / b
touched_some b place zero some = absurd (omega arith)
touched_some b place (suc n) some = let e : place + suc n - 1 ≡ place + n = omega arith in rw e refl

-- they are among the words in which the window lies
pub touched_within : (b place n w : ℕ) → 0 < b → place + n ≤ w * b → place / b + touched b place n ≤ w
touched_within b place zero w some fits =
    let turned : place ≤ b * w = omega arith in
    omega (arith, div-le_of_le-mul b turned)
touched_within b place (suc n) w some fits =
    let below : place + n < w * b = omega arith in
    let from : place < w * b = omega arith in
    let last : (place + n) / b < w = (div-lt_iff_lt-mul some).1 below in
    let first : place / b < w = (div-lt_iff_lt-mul some).1 from in
    omega (arith, last, first)

-- How many words hold so many bits.
use Rattle.std.proofs.Common.{◌≡◌, ℕ, suc, ◌+◌, ◌*◌, ◌<◌, ◌≤◌, inl, inr, arith}
use Rattle.std.proofs.Math.Nat.{mul-le-mul_right, suc-mul}
use Rattle.std.specs.Int.{div_ceil}
use Rattle.std.proofs.lemmas.Grind.{div_ceil_times}
use Rattle.std.proofs.lemmas.Bool.{cases_lt}

-- so many words of `size` bits, rounded up, hold n bits
pub div_ceil_holds : (n size : ℕ) → 0 < size → n ≤ div_ceil n size * size
div_ceil_holds n size some = (div_ceil_times n size some).0

-- and no fewer words do
pub div_ceil_least : (n size words : ℕ) → 0 < size → n ≤ words * size → div_ceil n size ≤ words
div_ceil_least n size words some holds = elim (cases_lt words (div_ceil n size)) [
  | inl more ↦ absurd (
      let over : div_ceil n size * size < n + size = (div_ceil_times n size some).1 in
      let full : suc words * size ≤ div_ceil n size * size = mul-le-mul_right size more in
      let next : suc words * size ≡ words * size + size = suc-mul words size in
      omega arith
      )
  | inr enough ↦ enough
]

pub ruleset rounded_up = (div_ceil_holds, div_ceil_least)

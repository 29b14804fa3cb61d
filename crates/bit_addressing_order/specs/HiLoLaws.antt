-- Why `HiLo` is lawful: flipping a digit keeps an index one, and indices apart.
use Rattle.std.proofs.Common.{◌≡◌, ℕ, ◌^◌, ◌<◌, bit_xor, ap, arith}
use Rattle.std.proofs.Math.Pow.{pow_mono}
use Rattle.std.proofs.lemmas.Nat.{xor_lt}
use Rattle.std.proofs.lemmas.Nat.Bits.{bit_at-lt, bit_at_xor, same_from_bits}
use Rattle.std.specs.Int.{bit_at}
use Rattle.bit_addressing_order.specs.BitRegister.{IsRegisterSize}

-- flipping the digit of weight 4 keeps an index of a register one
pub flip_within : (bits i : ℕ) → IsRegisterSize bits → i < bits → bit_xor i 4 < bits
flip_within bits i size lt =
    let four : 4 < 2 ^ size.0 = omega (arith, pow_mono {i = 3} {j = size.0} size.1) in
    rw size.3 (xor_lt size.0 i 4 (omega arith) four)

-- flipping the digit of weight 4 keeps numbers apart
pub flip_apart : (i j : ℕ) → bit_xor i 4 ≡ bit_xor j 4 → i ≡ j
flip_apart i j e = same_from_bits i j (λ k. omega (
  arith,
  ap (λ n. bit_at n k) e,
  bit_at_xor i 4 k,
  bit_at_xor j 4 k,
  bit_at-lt i k,
  bit_at-lt j k,
  bit_at-lt 4 k,
))

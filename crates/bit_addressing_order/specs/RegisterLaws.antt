-- What the registers' ghost members cite: each size by its name, and that a word fits its bits.
use Rattle.std.proofs.Common.{ℕ, ◌%◌, ◌^◌, ◌<◌, refl, lit≤, arith}
use Rattle.std.proofs.Math.Pow.{pow_pos}
use Rattle.bit_addressing_order.specs.BitRegister.{IsRegisterSize}

-- the size of `u8`
pub size_of_8 : IsRegisterSize 8
size_of_8 = (3, lit≤ tt, lit≤ tt, refl)

-- the size of `u16`
pub size_of_16 : IsRegisterSize 16
size_of_16 = (4, lit≤ tt, lit≤ tt, refl)

-- the size of `u32`
pub size_of_32 : IsRegisterSize 32
size_of_32 = (5, lit≤ tt, lit≤ tt, refl)

-- the size of `u64` and of `usize`
pub size_of_64 : IsRegisterSize 64
size_of_64 = (6, lit≤ tt, lit≤ tt, refl)

-- the size of `u128`
pub size_of_128 : IsRegisterSize 128
size_of_128 = (7, lit≤ tt, lit≤ tt, refl)

-- a remainder by two to a power is below that power
pub below_power : (bits n : ℕ) → n % 2 ^ bits < 2 ^ bits
below_power bits n = omega (arith, pow_pos bits)

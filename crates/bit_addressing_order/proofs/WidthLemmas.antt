-- `|` and `^` of two words are words, where a register has 64 or 128 bits.
use Rattle.std.proofs.Common.{ℕ, ◌^◌, ◌<◌, bit_or, bit_xor}
use Rattle.std.proofs.lemmas.Nat.{or_lt, xor_lt}

pub or_of_64 : (a b : ℕ) → a < 2 ^ 64 → b < 2 ^ 64 → bit_or a b < 2 ^ 64
or_of_64 = or_lt 64

pub xor_of_64 : (a b : ℕ) → a < 2 ^ 64 → b < 2 ^ 64 → bit_xor a b < 2 ^ 64
xor_of_64 = xor_lt 64

pub or_of_128 : (a b : ℕ) → a < 2 ^ 128 → b < 2 ^ 128 → bit_or a b < 2 ^ 128
or_of_128 = or_lt 128

pub xor_of_128 : (a b : ℕ) → a < 2 ^ 128 → b < 2 ^ 128 → bit_xor a b < 2 ^ 128
xor_of_128 = xor_lt 128

pub ruleset wide = (or_of_64, xor_of_64, or_of_128, xor_of_128)

-- Whole numbers by their binary digits, in two's complement.
--
-- The lowest digits: `low_digits`. Numbers of so many digits: `FitsIn`, `with_digits`, `wrapped`.
use Rattle.std.specs.Prelude.{ℕ, ℤ, pos, negsuc, ◌-◌, ◌%◌, ◌^◌, ◌<◌, Bool, true, false, if◌then◌else◌, nat_lt}

-- the lowest n binary digits of a whole number, as a number: of -1 they are all ones
abbrev pub low_digits : ℕ → ℤ → ℕ
low_digits n (pos k) = k % 2 ^ n
low_digits n (negsuc k) = 2 ^ n - 1 - k % 2 ^ n

-- z is a number of n digits, without or with a sign
abbrev pub FitsIn : Bool → ℕ → ℤ → Type 0
FitsIn false n (pos k) = k < 2 ^ n
FitsIn false n (negsuc k) = ⊥
FitsIn true n (pos k) = k < 2 ^ (n - 1)
FitsIn true n (negsuc k) = k < 2 ^ (n - 1)

-- the number of n digits with these digits: with a sign, the highest of them is the sign's
abbrev pub with_digits : Bool → ℕ → ℕ → ℤ
with_digits false n d = pos d
with_digits true n d = if nat_lt d (2 ^ (n - 1)) then pos d else negsuc (2 ^ n - 1 - d)

-- a whole number cut to n digits: modulo 2 ^ n, and with a sign the highest of these digits is the sign's
abbrev pub wrapped : Bool → ℕ → ℤ → ℤ
wrapped signed n z = with_digits signed n (low_digits n z)

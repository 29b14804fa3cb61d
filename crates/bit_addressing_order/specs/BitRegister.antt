-- What is said of every register.
use Rattle.std.specs.Prelude.{◌≡◌, ℕ, ◌^◌, ◌≤◌}

-- a register has 8, 16, 32, 64 or 128 bits
abbrev pub IsRegisterSize : ℕ → Type 0
IsRegisterSize bits = (indx : ℕ) × (3 ≤ indx) × (indx ≤ 7) × (bits ≡ 2 ^ indx)

-- The eight bytes of a header.
use Rattle.std.specs.Prelude.{ℕ, ◌+◌, ◌-◌, ◌*◌, ◌/◌, ◌%◌, ◌^◌, List, map}
use Rattle.std.specs.List.{range_with_len}

-- the fields of 4, 12, 16 and 32 digits as one number of 64
abbrev pub header_number : ℕ → ℕ → ℕ → ℕ → ℕ
header_number version length id sequence = ((version * 2 ^ 12 + length) * 2 ^ 16 + id) * 2 ^ 32 + sequence

-- the eight bytes of a number of 64 digits, the highest first
abbrev pub bytes_of : ℕ → List ℕ
bytes_of n = map (λ k. n / 2 ^ (8 * (7 - k)) % 2 ^ 8) (range_with_len 0 8)

abbrev pub header_bytes : ℕ → ℕ → ℕ → ℕ → List ℕ
header_bytes version length id sequence = bytes_of (header_number version length id sequence)

-- Numbers in network order: in bytes, the bits of each counted from its highest digit.
use Rattle.std.specs.Prelude.{ℕ, ℤ, ◌-◌, ◌%◌, ◌^◌, Bool, List}
use Rattle.bit_addressing.specs.Bits.{bits_in_order}
use Rattle.bit_addressing_memory.specs.Memory.{Reading, reading_in}
use Rattle.bit_slice_fields.specs.Whole.{low_digits}

-- how bytes are read
abbrev pub network : Reading ℕ
network = reading_in 8 (λ byte. byte % 2 ^ 8) (λ i. 8 - 1 - i)

-- the lowest n digits of a number, the highest first
abbrev pub network_bits : ℕ → ℤ → List Bool
network_bits n z = bits_in_order (λ i. n - 1 - i) n (low_digits n z)

-- The number of a window.
--
-- A window of n bits begins at the index `head` of a word of b bits, and is cut where a word ends: what lies in one
-- word is a segment. Each bit weighs a power of two: `weight` is the exponent. A whole number in a window: `field_bits`.
-- Which end of a word counts lowest: `CountsFrom`.
use Rattle.std.specs.Prelude.{ℕ, ℤ, ◌+◌, ◌-◌, ◌*◌, ◌/◌, Bool, true, false, List, min}
use Rattle.bit_addressing_memory.specs.Bits.{bits_in_order}
use Rattle.bit_slice_fields.specs.Whole.{low_digits}
pub use Rattle.bit_slice_words.specs.Orders.{CountsFrom}

-- the first bit of the segment that bit i lies in
abbrev pub segment_start : ℕ → ℕ → ℕ → ℕ
segment_start b head i = (head + i) / b * b - head

-- the bit before which that segment ends
abbrev pub segment_end : ℕ → ℕ → ℕ → ℕ → ℕ
segment_end b head n i = min n ((head + i) / b * b + b - head)

-- how many bits lie in the segments that count lower than that of bit i. le: the first segment counts lowest, else
-- the last one
abbrev pub lower_bits : Bool → ℕ → ℕ → ℕ → ℕ → ℕ
lower_bits true b head n i = segment_start b head i
lower_bits false b head n i = n - segment_end b head n i

-- how many bits of its segment count lower than bit i. low: the first bit of a segment counts lowest, else the last
-- one
abbrev pub inner_bits : Bool → ℕ → ℕ → ℕ → ℕ → ℕ
inner_bits true b head n i = i - segment_start b head i
inner_bits false b head n i = segment_end b head n i - 1 - i

-- the weight of bit i, as an exponent of two
abbrev pub weight : Bool → Bool → ℕ → ℕ → ℕ → ℕ → ℕ
weight low le b head n i = lower_bits le b head n i + inner_bits low b head n i

-- the bits of a window that holds the lowest n digits of a whole number: each the digit of its weight
abbrev pub field_bits : Bool → Bool → ℕ → ℕ → ℕ → ℤ → List Bool
field_bits low le b head n z = bits_in_order (weight low le b head n) n (low_digits n z)

-- Words for those who read and write words by bits.
use Rattle.std.specs.Prelude.{ℕ, ◌^◌, ◌==◌, Bool, true, false, List, map, bit_or, bit_xor}
use Rattle.std.specs.Int.{bit_at}
use Rattle.std.specs.List.{range_with_len}

-- the digit of n at position p, as a truth value
abbrev pub digit_at : ℕ → ℕ → Bool
digit_at n p = bit_at n p == 1

-- the number n with its digit at position p made b: set, and for false flipped after that
abbrev pub with_digit : ℕ → ℕ → Bool → ℕ
with_digit n p true = bit_or n (2 ^ p)
with_digit n p false = bit_xor (bit_or n (2 ^ p)) (2 ^ p)

-- the word n of so many bits as a list in an order: entry i is the digit at the position of index i
abbrev pub bits_in_order : (ℕ → ℕ) → ℕ → ℕ → List Bool
bits_in_order at bits n = map (λ i. digit_at n (at i)) (range_with_len 0 bits)

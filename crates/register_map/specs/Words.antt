-- How the words of a register map are read.
use Rattle.std.specs.Prelude.{ℕ, ◌+◌, ◌*◌, ◌%◌, ◌^◌}
use Rattle.bit_addressing.specs.Memory.{Reading, reading_in}

-- the position of index i in a word of 32 bits: the upper half comes first
abbrev pub upper_half_first : ℕ → ℕ
upper_half_first i = (1 * i + 16) % 32

-- the words, each of 32 bits, in that order
abbrev pub words : Reading ℕ
words = reading_in 32 (λ word. word % 2 ^ 32) upper_half_first

-- words of 32 bits, the lowest digit first
abbrev pub digits_first : Reading ℕ
digits_first = reading_in 32 (λ word. word % 2 ^ 32) (λ i. i)

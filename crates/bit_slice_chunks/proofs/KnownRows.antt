-- Known rows of the definitions, computed: a wrong rule among them does not check.
use Rattle.std.proofs.Common.{◌≡◌, true, false, refl}
use Rattle.bit_addressing_memory.specs.declared.direction.Direction.TheVariants.{Ascending, Descending}
use Rattle.bit_addressing_memory.specs.Chunk.{chunk_bit, word_bit}

-- 0x12 under `Lsb0` begins 0 1 0 0 1, and so does the chunk 0x12
first_up : chunk_bit Ascending 0x12 0 ≡ false
first_up = refl

fifth_up : chunk_bit Ascending 0x12 4 ≡ true
fifth_up = refl

last_up : chunk_bit Ascending 0x8000000000000000 63 ≡ true
last_up = refl

-- 0x12 of eight digits under `Msb0` begins 0 0 0 1, and a chunk that does is left-aligned
fourth_of_word : word_bit Descending 8 0x12 3 ≡ true
fourth_of_word = refl

fourth_down : chunk_bit Descending 0x1200000000000000 3 ≡ true
fourth_down = refl

first_down : chunk_bit Descending 0x12 0 ≡ false
first_down = refl

last_down : chunk_bit Descending 0x1 63 ≡ true
last_down = refl

-- the chunk that begins 0 1 0 0 1 in the other direction
second_turned : chunk_bit Descending 0x4800000000000000 1 ≡ chunk_bit Ascending 0x12 1
second_turned = refl

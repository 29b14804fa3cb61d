-- What bits of some words show: the words, where they begin there, and how many there are.
use Rattle.std.specs.Prelude.{ℕ, Bool, List}
use Rattle.bit_addressing_memory.specs.Memory.{Reading, memory, piece}
use Rattle.bit_addressing_span.specs.declared.bit_part.BitPart.{BitPart}

-- the words that a part lies in
abbrev pub bit_part_words : {R O : Type 0} {g : _} → BitPart R O g → List R
bit_part_words p = p.words.now

-- the index of its first bit in the first of them
abbrev pub bit_part_head : {R O : Type 0} {g : _} → BitPart R O g → ℕ
bit_part_head p = p.head

-- how many bits it has
abbrev pub bit_part_len : {R O : Type 0} {g : _} → BitPart R O g → ℕ
bit_part_len p = p.len

-- its bits, in order
abbrev pub bit_part_bits : {R O : Type 0} {g : _} → Reading R → BitPart R O g → List Bool
bit_part_bits reading p = piece (memory reading p.words.now) p.head p.len

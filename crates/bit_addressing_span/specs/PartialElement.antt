-- What a partial element shows: its word, and the part of it.
use Rattle.std.specs.Prelude.{ℕ, ◌-◌, Bool, List, Option, map, bit_and}
use Rattle.bit_addressing_memory.specs.Memory.{Reading, memory, piece}
use Rattle.bit_addressing_memory.specs.Partial.{part_mask}
use Rattle.bit_addressing_span.specs.declared.partial.PartialElement.{PartialElement}

-- the memory of one word that a partial element is part of
abbrev pub partial_words : {R O : Type 0} {g : _} → PartialElement R O g → List R
partial_words p = p.words.now

-- the index of its first bit
abbrev pub partial_head : {R O : Type 0} {g : _} → PartialElement R O g → ℕ
partial_head p = p.head

-- the end of its bits
abbrev pub partial_tail : {R O : Type 0} {g : _} → PartialElement R O g → ℕ
partial_tail p = p.tail

-- its bits, in order, at words of b bits with these digits
abbrev pub partial_bits : {R O : Type 0} {g : _} → Reading R → PartialElement R O g → List Bool
partial_bits reading p = piece (memory reading p.words.now) p.head (p.tail - p.head)

-- its word masked, as a list of one number
abbrev pub partial_numbers : {R O : Type 0} {g : _} → (R → ℕ) → (Option ℕ → Option ℕ → ℕ)
    → PartialElement R O g → List ℕ
partial_numbers number mask p = map (λ w. bit_and (number w) (part_mask mask p.head p.tail)) p.words.now

-- The parts of a span, a word each: where they are, and what reading them all is.
--
-- The part of word k: `part_from`, `part_upto`, `part_place`, `part_count`.
-- A read of all: `AreMasked`.
use Rattle.std.specs.Prelude.{ℕ, ◌+◌, ◌-◌, ◌*◌, ◌<◌, List, min, slice_index}
use Rattle.bit_addressing_memory.specs.Memory.{Reading, touched}
use Rattle.bit_addressing_memory.specs.Bits.{digit_at}
use Rattle.bit_addressing_memory.specs.Partial.{ReadsDigits}
use Rattle.bit_addressing_span.specs.Span.{Extent}

-- the index at which a span's part of its word k begins: the head in the first word, 0 in each other
abbrev pub part_from : ℕ → Extent → ℕ → ℕ
part_from b span k = span.head - k * b

-- the end of that part: the edge of the word, or the end of the span where that comes first
abbrev pub part_upto : ℕ → Extent → ℕ → ℕ
part_upto b span k = min (span.head + span.len - k * b) b

-- the place of the part's first bit in the memory
abbrev pub part_place : ℕ → Extent → ℕ → ℕ
part_place b span k = (span.word + k) * b + part_from b span k

-- how many bits it has
abbrev pub part_count : ℕ → Extent → ℕ → ℕ
part_count b span k = part_upto b span k - part_from b span k

-- the numbers are the span's masked words, one after another: number k has the digits of the span's part of word k at
-- the positions `at`, and no others
abbrev pub AreMasked : {R : Type 0} → Reading R → (ℕ → ℕ) → List R → Extent → List ℕ → Type 0
AreMasked reading at words span numbers =
    (k : ℕ) → k < touched reading.bits span.head span.len
    → ReadsDigits reading words (span.word + k) (λ i. digit_at (slice_index numbers k) (at i))
    (part_from reading.bits span k) (part_upto reading.bits span k)

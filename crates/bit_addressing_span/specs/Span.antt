-- Where a span lies, and what refuses one.
--
-- A span's numbers: `Extent`. Its bits: `span_place`, `span_bits`. Its words: `FitsIn`, `LiesInside`, `end_inside`.
-- What is asked of the numbers: `IsExtent`. What refuses others: `IsRefusal`.
use Rattle.std.specs.Prelude.{ℕ, zero, suc, ◌+◌, ◌*◌, ◌%◌, ◌^◌, ◌<◌, ◌≤◌, ◌≡◌, Bool, List}
use Rattle.bit_addressing_memory.specs.Memory.{Reading, memory, piece, touched}
use Rattle.bit_addressing_span.specs.declared.span_error.BitSpanError.{BitSpanError}
use Rattle.bit_addressing_span.specs.declared.span_error.BitSpanError.TheVariants.{TooLong, TooHigh}

-- so many bits from one index of a word on
pub record Extent : Type 0 where
  pub word : ℕ
  pub head : ℕ
  pub len : ℕ

-- the extent of these numbers
abbrev pub extent : ℕ → ℕ → ℕ → Extent
extent word head len = record { word = word; head = head; len = len }

-- the place of a span's first bit, at words of b bits
abbrev pub span_place : ℕ → Extent → ℕ
span_place b span = span.word * b + span.head

-- the bits of a span of a memory, in order
abbrev pub span_bits : {R : Type 0} → Reading R → List R → Extent → List Bool
span_bits reading words span = piece (memory reading words) (span_place reading.bits span) span.len

-- each word that holds a bit of the span is one of the first n
abbrev pub FitsIn : ℕ → Extent → ℕ → Type 0
FitsIn b span n = span.word + touched b span.head span.len ≤ n

-- the span has bits, and lies in one word, touching neither edge of it
abbrev pub LiesInside : ℕ → Extent → Type 0
LiesInside b span = (0 < span.len) × (0 < span.head) × (span.head + span.len < b)

-- the end inside the last word, of b bits, of len bits from index head on: the head, where there are none
abbrev pub end_inside : ℕ → ℕ → ℕ → ℕ
end_inside b head zero = head
end_inside b head (suc n) = (head + n) % b + 1

-- a span has at most `most` bits, and ends in the words that a signed number counts
abbrev pub IsExtent : ℕ → ℕ → Extent → Type 0
IsExtent most b s = (s.len ≤ most) × (s.word + touched b s.head s.len < 2 ^ 63)

-- the error says which of the two is not so: the length first, then the end
abbrev pub IsRefusal : ℕ → ℕ → Extent → BitSpanError → Type 0
IsRefusal most b s (TooLong len) = (len ≡ s.len) × (most < s.len)
IsRefusal most b s (TooHigh word) =
    (word ≡ s.word) × (s.len ≤ most) × (2 ^ 63 ≤ s.word + touched b s.head s.len)

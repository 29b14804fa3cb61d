-- A span's list of bits, by the entries of the memory that the span fits.
--
-- Where the span lies: `span_within`, `place_fits`, `lies_in_memory`. Its list: `length-span_bits`, `span_bit`.
-- What one command did: `refused`, `carried`; the same at equal lists and spans: `carried_as`.
use Rattle.std.proofs.Common.{◌≡◌, ℕ, ◌+◌, ◌-◌, ◌*◌, ◌^◌, ◌<◌, ◌≤◌, true, false, List, length, get_or, refl}
use Rattle.std.proofs.Common.{sym, ap, ◌∙◌, inl, inr, arith}
use Rattle.std.proofs.Math.IntN.{pos}
use Rattle.std.proofs.lemmas.Bool.{cases_eq}
use Rattle.bit_addressing_memory.specs.Memory.{Reading, entry, memory, touched}
use Rattle.bit_addressing.specs.Pointer.{LiesIn, Pointer, memory_place}
use Rattle.bit_addressing_span.specs.Span.{Extent, span_bits, span_place, FitsIn}
use Rattle.bit_addressing_memory.proofs.MemoryLemmas.{entry_memory, get_or-piece, length-memory}
use Rattle.bit_addressing_memory.proofs.MemoryLemmas.{length-piece, piece_none}
use Rattle.bit_addressing_span.proofs.SpanLemmas.{touched-within}
use Rattle.bit_addressing.specs.Own.{lies_in, own_after, own_answer, own_edit, own_reading, seen}
use Rattle.bit_addressing.specs.Runs.{CarriesOut, IsOutside}
use Rattle.bit_addressing.specs.declared.command.SpanCommand.{SpanCommand}
use Rattle.bit_addressing.specs.declared.command.SpanReply.{SpanReply}
use Rattle.bit_addressing.specs.declared.command.SpanReply.TheVariants.{Refused}
use lib.Signed.{◌≤ℤ◌}

-- ---- where the span lies

-- its bits lie in the words that it fits
pub span_within : (b : ℕ) (span : Extent) (n : ℕ) → span.head < b → 0 < span.len
    → FitsIn b span n → span_place b span + span.len ≤ n * b
span_within b span n low some fits =
    let m : ℕ = n - span.word in
    let count : span.word + m ≡ n = omega arith in
    let inside : span.head + span.len ≤ m * b = touched-within b span.head span.len m low some (omega arith) in
    let sum : (span.word + m) * b ≡ span.word * b + m * b = omega arith in
    let all : (span.word + m) * b ≡ n * b = ap (λ q. q * b) count in
    omega arith

-- the place of one of its bits is below 2 ^ 63 words
pub place_fits : (b : ℕ) (span : Extent) (word head i : ℕ) → word ≡ span.word → head ≡ span.head → span.head < b
    → span.word + touched b span.head span.len < 2 ^ 63 → i < span.len → word * b + head + i < 2 ^ 63 * b
place_fits b span word head i is_word is_head low fits small =
    let all : span_place b span + span.len ≤ 2 ^ 63 * b = span_within b span (2 ^ 63) low (omega arith) (omega arith) in
    rw (is_word, is_head) (omega arith)

-- a pointer to its bit i, and n bits from there on, lie in a memory that it fits
pub lies_in_memory : (b : ℕ) (span : Extent) (p : Pointer) (i n words : ℕ) → pos 0 ≤ℤ p.word
    → memory_place b p ≡ span_place b span + i → span.head < b → FitsIn b span words
    → 0 < n → i + n ≤ span.len → LiesIn b p n words
lies_in_memory b span p i n words up is low fits some small =
    let all : span_place b span + span.len ≤ words * b = span_within b span words low (omega arith) fits in
    record { from = λ _. up; upto = λ _. omega arith }

-- ---- its list

pub length-span_bits : {R : Type 0} (reading : Reading R) (words : List R) (span : Extent) → span.head < reading.bits
    → FitsIn reading.bits span (length words) → length (span_bits reading words span) ≡ span.len
length-span_bits reading words span low fits = elim (cases_eq span.len 0) [
  | inl none ↦
      ap length (piece_none (memory reading words) (span_place reading.bits span) span.len none) ∙ sym none
  | inr some ↦
      let all : span_place reading.bits span + span.len ≤ length words * reading.bits =
      span_within reading.bits span (length words) low (omega arith) fits in
      length-piece (memory reading words) (span_place reading.bits span) span.len
      (omega (arith, length-memory reading words))
]

-- its bit j is an entry of the memory
pub span_bit : {R : Type 0} (reading : Reading R) (words : List R) (span : Extent) (j : ℕ) → 0 < reading.bits
    → j < span.len → get_or (span_bits reading words span) j false ≡ entry reading words
    (span_place reading.bits span + j)
span_bit reading words span j some low =
    get_or-piece (memory reading words) (span_place reading.bits span) span.len j false low
    ∙ entry_memory reading words (span_place reading.bits span + j) some

-- ---- what one command did

-- nothing, where its numbers are out of range
pub refused : {R : Type 0} (reading : Reading R) (words : List R) (span : Extent) (command : SpanCommand R)
    → span.head < reading.bits → FitsIn reading.bits span (length words)
    → lies_in reading.bits span.head span.len command ≡ false → CarriesOut reading words words span command Refused
unfolding own_after own_answer
refused reading words span command low fits is =
    let size = length-span_bits reading words span low fits in
    let out : lies_in reading.bits span.head (length (span_bits reading words span)) command ≡ false = rw size is in
    record { replied = rw out refl; list = rw out refl; others = λ p _. refl; words = refl }

-- its edit, where they are in range
pub carried : {R : Type 0} (reading : Reading R) (before after : List R) (span : Extent)
    (command : SpanCommand R) (reply : SpanReply R) → span.head < reading.bits
    → FitsIn reading.bits span (length before) → lies_in reading.bits span.head span.len command ≡ true
    → seen reading reply ≡ own_reading reading.bits span.head command (span_bits reading before span)
    → span_bits reading after span ≡ own_edit reading span.head command (span_bits reading before span)
    → ((p : ℕ) → IsOutside reading.bits span p → entry reading after p ≡ entry reading before p)
    → length after ≡ length before → CarriesOut reading before after span command reply
unfolding own_after own_answer
carried reading before after span command reply low fits is replied list others words =
    let size = length-span_bits reading before span low fits in
    let inside : lies_in reading.bits span.head (length (span_bits reading before span)) command ≡ true = rw size is in
    record { replied = rw inside replied; list = rw inside list; others = others; words = words }

-- the same of a memory and a span by other names
pub carried_as : {R : Type 0} (reading : Reading R) (words before stored after : List R) (its span : Extent)
    (command : SpanCommand R) (reply : SpanReply R) → words ≡ before → after ≡ stored → its ≡ span
    → CarriesOut reading words stored its command reply → CarriesOut reading before after span command reply
carried_as reading words before stored after its span command reply is_before is_after is_span done =
    rw (is_after, ← is_before, ← is_span) done

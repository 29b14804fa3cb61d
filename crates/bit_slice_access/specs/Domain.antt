-- The words of a writable window, as contracts see them.
use Rattle.std.specs.Prelude.{ℕ, ◌+◌, ◌/◌, ◌%◌, Bool, List}
use Rattle.bit_addressing_memory.specs.Memory.{Overwrites, Reading}
use Rattle.bit_addressing_span.specs.Parts.{part_count, part_from, part_place, part_upto}
use Rattle.bit_addressing_memory.specs.Partial.{ReadsPart}
use Rattle.bit_addressing_span.specs.Span.{Extent, extent}
use Rattle.bit_slice_access.specs.declared.domain_mut.WindowDomainMut.{WindowDomainMut}

-- the span of the n bits from a place on, at words of b bits
abbrev pub window_span : ℕ → ℕ → ℕ → Extent
window_span b place n = extent (place / b) (place % b) n

-- the window whose words these are, and the loan of it
abbrev pub domain_view : {V S O : Type 0} → WindowDomainMut V S O → V
domain_view domain = domain.of.now

abbrev pub domain_loan : {V S O : Type 0} → WindowDomainMut V S O → ℕ
domain_loan domain = domain.of.ghost_name

-- the word has the bits of the span's part of word k, and no other
abbrev pub ReadsWord : {R : Type 0} → Reading R → List R → Extent → ℕ → R → Type 0
ReadsWord reading words span k word =
    ReadsPart reading words (span.word + k) word (part_from reading.bits span k) (part_upto reading.bits span k)

-- the span's part of word k was written over, and no other bit
abbrev pub WritesWord : {R : Type 0} → Reading R → List R → List R → Extent → ℕ → (ℕ → Bool) → Type 0
WritesWord reading before after span k now =
    Overwrites reading before after (part_place reading.bits span k) (part_count reading.bits span k) now

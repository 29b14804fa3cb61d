-- What a writable domain shows: the memory, whose it is, and the span.
use Rattle.std.specs.Prelude.{ℕ, ◌≡◌, List, Option}
use Rattle.std.specs.Borrow.{MutBor}
use Rattle.bit_addressing_span.specs.Domain.{IsCutOf, domain_numbers}
use Rattle.bit_addressing_span.specs.Span.{Extent}
use Rattle.bit_addressing_span.specs.Texts.{numbers_text}
use Rattle.bit_addressing_span.specs.declared.domain.Domain.{Domain}
use Rattle.bit_addressing_span.specs.declared.domain_mut.DomainMut.{DomainMut}
use Rattle.bit_addressing_memory.specs.Memory.{Reading}

-- the memory as it is now
abbrev pub domain_words : {R O : Type 0} {g : _} → DomainMut R O g → List R
domain_words d = d.words.now

-- the reference to the memory
abbrev pub domain_lender : {R O : Type 0} {g : _} → DomainMut R O g → MutBor (List R)
domain_lender d = d.words

-- the span
abbrev pub domain_span : {R O : Type 0} {g : _} → DomainMut R O g → Extent
domain_span d = record { word = d.word; head = d.head; len = d.len }

-- the same span, of words lent by the same reference
pub record IsSameDomain {R O : Type 0} {g : _} (old new : DomainMut R O g) : Type 0 where
  pub lender : (domain_lender new).ghost_name ≡ (domain_lender old).ghost_name
  pub span : domain_span new ≡ domain_span old

-- the text is that of the span's masked words: of the domain that is the span in this memory, cut at the borders
-- of words, its numbers each written by `form`
pub record IsTextOf {R O : Type 0} {g : _} (reading : Reading R) (number : R → ℕ)
    (mask : Option ℕ → Option ℕ → ℕ) (form : ℕ → List ℕ) (d : DomainMut R O g) (text : List ℕ) : Type 0 where
  pub shown : Domain R O g
  pub cut : IsCutOf reading (domain_words d) (domain_span d) shown
  pub is : text ≡ numbers_text form (domain_numbers number mask shown)

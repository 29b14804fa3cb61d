-- A writable window cut at the borders of its words, as contracts see it.
use Rattle.std.specs.Prelude.{ℕ, ◌≡◌, ◌+◌, ◌-◌, ◌*◌, ◌/◌, ◌%◌, ◌^◌, ◌<◌, ◌≤◌, List, length, min}
use Rattle.bit_addressing_span.specs.declared.span.TheConstants.{MAX_BITS}
use Rattle.bit_slice_access.specs.declared.bit_domain_mut.BitDomainMut.{BitDomainMut}

-- how many of the n bits from a place on stand before the first border of words of b bits
abbrev pub head_bits : ℕ → ℕ → ℕ → ℕ
head_bits b place n = min n ((b - place % b) % b)

-- and how many in whole words after it
abbrev pub body_bits : ℕ → ℕ → ℕ → ℕ
body_bits b place n = (n - head_bits b place n) / b * b

-- the window that is cut, as its last borrower left it, and the loan of it
abbrev pub cut_view : {V S O : Type 0} → BitDomainMut V S O → V
cut_view domain = domain.of.now

abbrev pub cut_loan : {V S O : Type 0} → BitDomainMut V S O → ℕ
cut_loan domain = domain.of.ghost_name

-- the place of the window's first bit, and how many bits it has
abbrev pub cut_place : {V S O : Type 0} → BitDomainMut V S O → ℕ
cut_place domain = domain.head

abbrev pub cut_len : {V S O : Type 0} → BitDomainMut V S O → ℕ
cut_len domain = domain.len

-- how many bits the first part and the whole words have
abbrev pub cut_first : {V S O : Type 0} → BitDomainMut V S O → ℕ
cut_first domain = domain.first

abbrev pub cut_body : {V S O : Type 0} → BitDomainMut V S O → ℕ
cut_body domain = domain.body

-- the n bits from a place on are cut at the borders of words of b bits
pub record IsCutAt {V S O : Type 0} (b place n : ℕ) (domain : BitDomainMut V S O) : Type 0 where
  pub starts : cut_place domain ≡ place
  pub len : cut_len domain ≡ n
  pub first : cut_first domain ≡ head_bits b place n
  pub body : cut_body domain ≡ body_bits b place n
  pub inside : cut_first domain + cut_body domain ≤ n

-- the parts lie in the window's words, of b bits: what a function that is handed a cut asks of it to lend its parts
pub record CutLies {V S O : Type 0} (b : ℕ) (words : V → List S) (domain : BitDomainMut V S O) : Type 0 where
  pub ordered : cut_first domain + cut_body domain ≤ cut_len domain
  pub fits : cut_place domain + cut_len domain ≤ length (words (cut_view domain)) * b
  pub short : cut_len domain ≤ MAX_BITS
  pub small : cut_place domain + cut_len domain < 2 ^ 63

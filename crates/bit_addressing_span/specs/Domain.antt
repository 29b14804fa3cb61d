-- What a domain shows: its bits and its masked words, in order, and how it is cut.
use Rattle.std.specs.Prelude.{ℕ, ◌<◌, ◌≡◌, Bool, List, [], ◌++◌, Option, Some, None, IfSome, map}
use Rattle.std.specs.Borrow.{Bor}
use Rattle.bit_addressing_memory.specs.Memory.{Reading, memory}
use Rattle.bit_addressing_span.specs.Span.{Extent, span_bits}
use Rattle.bit_addressing_span.specs.PartialElement.{partial_bits, partial_numbers, partial_head, partial_tail}
use Rattle.bit_addressing_span.specs.declared.partial.PartialElement.{PartialElement}
use Rattle.bit_addressing_span.specs.declared.domain.Domain.{Domain}
use Rattle.bit_addressing_span.specs.declared.domain.Domain.TheVariants.{Enclave, Region}

-- the bits of a part, where there is one
abbrev pub option_bits : {R O : Type 0} {g : _} → Reading R → Option (PartialElement R O g) → List Bool
option_bits reading None = []
option_bits reading (Some p) = partial_bits reading p

-- the bits that a domain gives, in order
abbrev pub domain_bits : {R O : Type 0} {g : _} → Reading R → Domain R O g → List Bool
domain_bits reading (Enclave p) = partial_bits reading p
domain_bits reading (Region head body tail) =
    option_bits reading head ++ memory reading body.now ++ option_bits reading tail

-- the masked word of a part, where there is one
abbrev pub option_numbers : {R O : Type 0} {g : _} → (R → ℕ) → (Option ℕ → Option ℕ → ℕ)
    → Option (PartialElement R O g) → List ℕ
option_numbers number mask None = []
option_numbers number mask (Some p) = partial_numbers number mask p

-- the masked words that a domain gives, in order, as numbers
abbrev pub domain_numbers : {R O : Type 0} {g : _} → (R → ℕ) → (Option ℕ → Option ℕ → ℕ) → Domain R O g → List ℕ
domain_numbers number mask (Enclave p) = partial_numbers number mask p
domain_numbers number mask (Region head body tail) =
    option_numbers number mask head ++ map number body.now ++ option_numbers number mask tail

-- the domain is an enclave
abbrev pub IsEnclave : {R O : Type 0} {g : _} → Domain R O g → Type 0
IsEnclave (Enclave p) = Unit {0}
IsEnclave (Region head body tail) = ⊥

-- the part ends at its word's edge, and begins inside it
abbrev pub IsHead : {R O : Type 0} {g : _} → ℕ → PartialElement R O g → Type 0
IsHead b p = (0 < partial_head p) × (partial_tail p ≡ b)

-- the part begins at its word's edge, and ends inside it
abbrev pub IsTail : {R O : Type 0} {g : _} → ℕ → PartialElement R O g → Type 0
IsTail b p = (partial_head p ≡ 0) × (0 < partial_tail p) × (partial_tail p < b)

-- an enclave has bits and touches neither edge of its word; a head and a tail, where there are any, have some
-- bits and not all of their words
abbrev pub IsCut : {R O : Type 0} {g : _} → ℕ → Domain R O g → Type 0
IsCut b (Enclave p) = (0 < partial_head p) × (partial_head p < partial_tail p) × (partial_tail p < b)
IsCut b (Region head body tail) = IfSome head (IsHead b) × IfSome tail (IsTail b)

-- the index in its first word at which the domain begins
abbrev pub domain_start : {R O : Type 0} {g : _} → Domain R O g → ℕ
domain_start (Enclave p) = partial_head p
domain_start (Region None body tail) = 0
domain_start (Region (Some p) body tail) = partial_head p

-- the domain is a region without bits
abbrev pub IsEmptyRegion : {R O : Type 0} {g : _} → Domain R O g → Type 0
IsEmptyRegion (Enclave p) = ⊥
IsEmptyRegion (Region head body tail) = (head ≡ None) × (body.now ≡ []) × (tail ≡ None)

-- the part of an enclave
abbrev pub domain_enclave : {R O : Type 0} {g : _} → Domain R O g → Option (PartialElement R O g)
domain_enclave (Enclave p) = Some p
domain_enclave (Region head body tail) = None

-- the parts of a region
abbrev pub domain_region : {R O : Type 0} {g : _} → Domain R O g
    → Option (Option (PartialElement R O g) × Bor (List R) × Option (PartialElement R O g))
domain_region (Enclave p) = None
domain_region (Region head body tail) = Some (head, body, tail)

-- the domain gives the bits of the span in these words, cut at the borders of words: it begins at the span's index,
-- so its bits lie in its parts where they lie in these words
pub record IsCutOf {R O : Type 0} {g : _} (reading : Reading R) (words : List R) (span : Extent)
    (d : Domain R O g)
    : Type 0 where
  pub bits : domain_bits reading d ≡ span_bits reading words span
  pub start : 0 < span.len → domain_start d ≡ span.head
  pub cut : IsCut reading.bits d

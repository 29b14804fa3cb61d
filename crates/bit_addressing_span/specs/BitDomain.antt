-- What a domain shows as its parts, each as words, a head and a length: their bits, in order, and how they are cut.
use Rattle.std.specs.Prelude.{ℕ, ◌≡◌, ◌+◌, ◌<◌, Bool, List, [], ◌++◌, Option, Some, None, IfSome}
use Rattle.std.specs.Borrow.{Bor}
use Rattle.bit_addressing_memory.specs.Memory.{Reading, memory}
use Rattle.bit_addressing_span.specs.BitPart.{bit_part_bits, bit_part_head, bit_part_len}
use Rattle.bit_addressing_span.specs.declared.bit_part.BitPart.{BitPart}
use Rattle.bit_addressing_span.specs.declared.bit_domain.BitDomain.{BitDomain}
use Rattle.bit_addressing_span.specs.declared.bit_domain.BitDomain.TheVariants.{Enclave, Region}

-- the bits of a part, where there is one
abbrev pub option_part_bits : {R O : Type 0} {g : _} → Reading R → Option (BitPart R O g) → List Bool
option_part_bits reading None = []
option_part_bits reading (Some p) = bit_part_bits reading p

-- the bits of the parts, in order
abbrev pub parts_bits : {R O : Type 0} {g : _} → Reading R → BitDomain R O g → List Bool
parts_bits reading (Enclave p) = bit_part_bits reading p
parts_bits reading (Region head body tail) =
    option_part_bits reading head ++ memory reading body.now ++ option_part_bits reading tail

-- the index in its word at which a part begins, and 0 where there is none
abbrev pub option_part_start : {R O : Type 0} {g : _} → Option (BitPart R O g) → ℕ
option_part_start None = 0
option_part_start (Some p) = bit_part_head p

-- the index in its first word at which the parts begin
abbrev pub parts_start : {R O : Type 0} {g : _} → BitDomain R O g → ℕ
parts_start (Enclave p) = bit_part_head p
parts_start (Region head body tail) = option_part_start head

-- there is one part alone
abbrev pub IsOnePart : {R O : Type 0} {g : _} → BitDomain R O g → Type 0
IsOnePart (Enclave p) = Unit {0}
IsOnePart (Region head body tail) = ⊥

-- the part begins and ends inside its word
abbrev pub IsInnerPart : {R O : Type 0} {g : _} → ℕ → BitPart R O g → Type 0
IsInnerPart b p = (0 < bit_part_head p) × (0 < bit_part_len p) × (bit_part_head p + bit_part_len p < b)

-- the part begins inside its word, and ends at its edge
abbrev pub IsHeadPart : {R O : Type 0} {g : _} → ℕ → BitPart R O g → Type 0
IsHeadPart b p = (0 < bit_part_head p) × (bit_part_head p + bit_part_len p ≡ b)

-- the part begins at its word's edge, and ends inside it
abbrev pub IsTailPart : {R O : Type 0} {g : _} → ℕ → BitPart R O g → Type 0
IsTailPart b p = (bit_part_head p ≡ 0) × (0 < bit_part_len p) × (bit_part_len p < b)

-- each part lies in its word as it should
abbrev pub IsPartCut : {R O : Type 0} {g : _} → ℕ → BitDomain R O g → Type 0
IsPartCut b (Enclave p) = IsInnerPart b p
IsPartCut b (Region head body tail) = IfSome head (IsHeadPart b) × IfSome tail (IsTailPart b)

-- the one part
abbrev pub parts_enclave : {R O : Type 0} {g : _} → BitDomain R O g → Option (BitPart R O g)
parts_enclave (Enclave p) = Some p
parts_enclave (Region head body tail) = None

-- the parts of a region
abbrev pub parts_region : {R O : Type 0} {g : _} → BitDomain R O g
    → Option (Option (BitPart R O g) × Bor (List R) × Option (BitPart R O g))
parts_region (Enclave p) = None
parts_region (Region head body tail) = Some (head, body, tail)

-- a region without bits
abbrev pub HasNoParts : {R O : Type 0} {g : _} → BitDomain R O g → Type 0
HasNoParts (Enclave p) = ⊥
HasNoParts (Region head body tail) = (head ≡ None) × (body.now ≡ []) × (tail ≡ None)

-- What a window cut at the borders of its words shows: its parts' bits, in order, and how it is cut.
use Rattle.std.specs.Prelude.{ℕ, ◌≡◌, ◌+◌, ◌<◌, Bool, List, [], ◌++◌, length, Option, Some, None, IfSome}
use Rattle.std.specs.Borrow.{Bor}
use Rattle.bit_addressing_memory.specs.Memory.{Reading, memory}
use Rattle.bit_slice_views.specs.View.{view_bits, view_head}
use Rattle.bit_slice_views.specs.declared.view.BitSlice.{BitSlice}
use Rattle.bit_slice_views.specs.declared.bit_domain.BitDomain.{BitDomain}
use Rattle.bit_slice_views.specs.declared.bit_domain.BitDomain.TheVariants.{Enclave, Region}

-- the bits of a part, where there is one
abbrev pub option_view_bits : {T O : Type 0} {g : _} → Reading T → Option (BitSlice T O g) → List Bool
option_view_bits reading None = []
option_view_bits reading (Some view) = view_bits reading view

-- the bits of the parts, in order
abbrev pub parts_bits : {T O : Type 0} {g : _} → Reading T → BitDomain T O g → List Bool
parts_bits reading (Enclave view) = view_bits reading view
parts_bits reading (Region head body tail) =
    option_view_bits reading head ++ memory reading body.now ++ option_view_bits reading tail

-- the one part
abbrev pub parts_enclave : {T O : Type 0} {g : _} → BitDomain T O g → Option (BitSlice T O g)
parts_enclave (Enclave view) = Some view
parts_enclave (Region head body tail) = None

-- the parts of a region
abbrev pub parts_region : {T O : Type 0} {g : _} → BitDomain T O g
    → Option (Option (BitSlice T O g) × Bor (List T) × Option (BitSlice T O g))
parts_region (Enclave view) = None
parts_region (Region head body tail) = Some (head, body, tail)

-- a region without bits
abbrev pub HasNoParts : {T O : Type 0} {g : _} → BitDomain T O g → Type 0
HasNoParts (Enclave view) = ⊥
HasNoParts (Region head body tail) = (head ≡ None) × (body.now ≡ []) × (tail ≡ None)

-- the part begins and ends inside its word
abbrev pub IsInnerPart : {T O : Type 0} {g : _} → Reading T → BitSlice T O g → Type 0
IsInnerPart reading view =
    (0 < view_head view) × (0 < length (view_bits reading view))
    × (view_head view + length (view_bits reading view) < reading.bits)

-- the part begins inside its word, and ends at its edge
abbrev pub IsHeadPart : {T O : Type 0} {g : _} → Reading T → BitSlice T O g → Type 0
IsHeadPart reading view =
    (0 < view_head view) × (view_head view + length (view_bits reading view) ≡ reading.bits)

-- the part begins at its word's edge, and ends inside it
abbrev pub IsTailPart : {T O : Type 0} {g : _} → Reading T → BitSlice T O g → Type 0
IsTailPart reading view =
    (view_head view ≡ 0) × (0 < length (view_bits reading view)) × (length (view_bits reading view) < reading.bits)

-- each part lies in its word as it should
abbrev pub IsBitCut : {T O : Type 0} {g : _} → Reading T → BitDomain T O g → Type 0
IsBitCut reading (Enclave view) = IsInnerPart reading view
IsBitCut reading (Region head body tail) = IfSome head (IsHeadPart reading) × IfSome tail (IsTailPart reading)

-- there is one part alone
abbrev pub IsOnePart : {T O : Type 0} {g : _} → BitDomain T O g → Type 0
IsOnePart (Enclave view) = Unit {0}
IsOnePart (Region head body tail) = ⊥

-- the index in its word at which a part begins, and 0 where there is none
abbrev pub option_start : {T O : Type 0} {g : _} → Option (BitSlice T O g) → ℕ
option_start None = 0
option_start (Some view) = view_head view

-- the index in its first word at which the parts begin
abbrev pub parts_start : {T O : Type 0} {g : _} → BitDomain T O g → ℕ
parts_start (Enclave view) = view_head view
parts_start (Region head body tail) = option_start head

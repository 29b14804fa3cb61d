-- A register map: which bits a device has, and what a command at one device may change.
--
-- A map: `Registers`, `IsMap`. A device: `HasDevice`, `width_of`, `IsOwn`; no device: `IsFree`. What it has: `bits_of`,
-- as a number `number_of`; a flag: `HasFlag`, `flag_of`; room for a number: `HasRoom`. What a command leaves:
-- `KeepsOthers`. Why one is refused: `IsNoFlag`, `IsNoNumber`.
use Rattle.std.specs.Prelude.{◌≡◌, ◌≢◌, ℕ, ◌+◌, ◌*◌, ◌^◌, ◌<◌, ◌≤◌, Bool, false}
use Rattle.std.specs.Prelude.{List, [], ◌∷◌, length, slice_index_or}
use Rattle.std.specs.Prelude.{if◌then◌else◌}
use Rattle.bit_addressing.specs.Memory.{entry}
use Rattle.bit_addressing.specs.Span.{Extent, span_bits, span_place}
use Rattle.bit_addressing.specs.Runs.{AllFit, AreDisjoint, HeadsBelow, IsInside, IsOutside, span_at}
use Rattle.register_map.specs.Words.{words}
use Rattle.register_map.specs.declared.errors.Refusal.{Refusal}
use Rattle.register_map.specs.declared.errors.Refusal.TheVariants.{NoDevice, NoFlag, TooGreat}

-- what a map is seen as: the spans of its devices, and how many words they lie in
pub record Registers : Type 0 where
  pub spans : List Extent
  pub size : ℕ

-- the map of these
abbrev pub registers : List Extent → ℕ → Registers
registers spans size = record { spans = spans; size = size }

-- there is a device of number d
abbrev pub HasDevice : Registers → ℕ → Type 0
HasDevice map d = d < length map.spans

-- how many bits it has
abbrev pub width_of : Registers → ℕ → ℕ
width_of map d = (span_at map.spans d).len

-- the place p is one of its
abbrev pub IsOwn : Registers → ℕ → ℕ → Type 0
IsOwn map d p = IsInside 32 (span_at map.spans d) p

-- the place p is no device's
abbrev pub IsFree : Registers → ℕ → Type 0
IsFree map p = (d : ℕ) → HasDevice map d → IsOutside 32 (span_at map.spans d) p

-- the bits that it has in some words, by its own index
abbrev pub bits_of : Registers → List ℕ → ℕ → List Bool
bits_of map memory d = span_bits words memory (span_at map.spans d)

-- the number whose digits bits are, the lowest first
abbrev pub number_of : List Bool → ℕ
number_of [] = 0
number_of (bit ∷ rest) = (if bit then 1 else 0) + 2 * number_of rest

-- there is a flag i of device d: its bit of that number
abbrev pub HasFlag : Registers → ℕ → ℕ → Type 0
HasFlag map d i = HasDevice map d × (i < width_of map d)

-- that flag
abbrev pub flag_of : Registers → List ℕ → ℕ → ℕ → Bool
flag_of map memory d i = slice_index_or (bits_of map memory d) i false

-- device d has as many bits as the number n takes
abbrev pub HasRoom : Registers → ℕ → ℕ → Type 0
HasRoom map d n = HasDevice map d × (n < 2 ^ width_of map d)

-- each device but d has the bits that it had, and so has each place that is no device's
pub record KeepsOthers (map : Registers) (before after : List ℕ) (d : ℕ) : Type 0 where
  pub devices : (e : ℕ) → HasDevice map e → e ≢ d → bits_of map after e ≡ bits_of map before e
  pub free : (p : ℕ) → IsFree map p → entry words after p ≡ entry words before p
  pub size : length after ≡ length before

-- why there is no flag i of device d
abbrev pub IsNoFlag : Registers → ℕ → ℕ → Refusal → Type 0
IsNoFlag map d i (NoDevice k) = (k ≡ d) × (length map.spans ≤ d)
IsNoFlag map d i (NoFlag flag width) = HasDevice map d × (flag ≡ i) × (width ≡ width_of map d) × (width ≤ i)
IsNoFlag map d i (TooGreat number width) = ⊥

-- why device d cannot have the number n
abbrev pub IsNoNumber : Registers → ℕ → ℕ → Refusal → Type 0
IsNoNumber map d n (NoDevice k) = (k ≡ d) × (length map.spans ≤ d)
IsNoNumber map d n (NoFlag flag width) = ⊥
IsNoNumber map d n (TooGreat number width) =
    HasDevice map d × (number ≡ n) × (width ≡ width_of map d) × (2 ^ width ≤ n)

-- what each map is: no bit is two devices', all lie in its words, and each has from 1 up to 32, which a `usize` counts
pub record IsMap (map : Registers) : Type 0 where
  pub disjoint : AreDisjoint 32 map.spans
  pub fit : AllFit 32 map.spans map.size
  pub heads : HeadsBelow 32 map.spans
  pub some : (d : ℕ) → HasDevice map d → 1 ≤ width_of map d
  pub few : (d : ℕ) → HasDevice map d → width_of map d ≤ 32
  pub counted : (d : ℕ) → HasDevice map d → span_place 32 (span_at map.spans d) + width_of map d < 2 ^ 64

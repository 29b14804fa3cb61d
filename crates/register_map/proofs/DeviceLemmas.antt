-- Devices and their spans, and whether they make a map.
--
-- One of them: `read_at`, `ends_beyond`. Two: `pair_apart`, `pair_disjoint`, `common_bit`. All: `all_apart`, `some_apart`,
-- `map_made`.
use Rattle.std.proofs.Common.{◌≡◌, ℕ, zero, suc, ◌+◌, ◌*◌, ◌/◌, ◌%◌, ◌<◌, ◌≤◌, Some, List, [], ◌∷◌, length}
use Rattle.std.proofs.Common.{get_or, refl, ap, ◌∙◌, inl, inr, arith}
use Rattle.std.proofs.lemmas.Bool.{cases_lt}
use Rattle.std.proofs.lemmas.List.{length-map}
use Rattle.std.proofs.lemmas.Option.{slice_get_read}
use Rattle.std.specs.List.{slice_get}
use Rattle.bit_addressing.specs.Memory.{touched}
use Rattle.bit_addressing.specs.Span.{Extent, span_place, FitsIn}
use Rattle.bit_addressing.specs.Runs.{AllFit, AreDisjoint, IsInside, IsOutside, span_at}
use Rattle.register_map.specs.Devices.{extent_of, extents_of}
use Rattle.register_map.specs.Registers.{registers, IsMap}
use Rattle.register_map.specs.declared.device.Device.{Device}

-- a device's span among those of all
pub span_of_device : (devices : List Device) (k : ℕ) (device : Device) → slice_get devices k ≡ Some device
    → span_at (extents_of devices) k ≡ extent_of device
span_of_device [] k device is = cc
span_of_device (d ∷ ds) zero device is = let same : d ≡ device = cc in ap extent_of same
span_of_device (d ∷ ds) (suc k) device is = span_of_device ds k device is

-- device k as it was read
pub record ReadAt (devices : List Device) (k : ℕ) (device : Device) : Type 0 where
  pub number : k < length (extents_of devices)
  pub is : slice_get devices k ≡ Some device
  pub span : span_at (extents_of devices) k ≡ extent_of device

pub read_at : (devices : List Device) (k : ℕ) (device : Device) → k < length devices → device ≡ get_or devices k device
    → ReadAt devices k device
read_at devices k device within is =
    let found = slice_get_read devices (length devices) k device refl within is in
    record {
      number = omega (arith, length-map devices extent_of);
      is = found;
      span = span_of_device devices k device found;
    }

-- a device that does not fit ends beyond the words
beyond_words : (place width size : ℕ) → 1 ≤ width → size < place / 32 + touched 32 (place % 32) width
    → size * 32 < place + width
beyond_words place zero size some past = absurd (omega arith)
beyond_words place (suc n) size some past = omega arith

pub ends_beyond : (device : Device) (size : ℕ) → (FitsIn 32 (extent_of device) size → ⊥)
    → size * 32 < device.place + device.width
ends_beyond device size not =
    elim (cases_lt size (device.place / 32 + touched 32 (device.place % 32) device.width)) [
      | inl past ↦ beyond_words device.place device.width size device.some past
      | inr fits ↦ absurd (not fits)
    ]

-- no bit of the first is the second's
abbrev pub Apart : Extent → Extent → Type 0
Apart one other = (p : ℕ) → IsInside 32 one p → IsOutside 32 other p

pub pair_apart : (one other : Extent) → AreDisjoint 32 (one ∷ other ∷ []) → Apart one other
unfolding AreDisjoint
pair_apart one other apart p = apart 0 1 p (omega arith) (omega arith)

pub pair_disjoint : (one other : Extent) → Apart one other → AreDisjoint 32 (one ∷ other ∷ [])
unfolding AreDisjoint
pair_disjoint one other apart zero zero p less within = absurd (omega arith)
pair_disjoint one other apart zero (suc zero) p less within = apart p
pair_disjoint one other apart zero (suc (suc t)) p less within = absurd (omega arith)
pair_disjoint one other apart (suc s) t p less within = absurd (omega arith)

-- of two that are not apart, the bit at the greater of their places
pub common_bit : (one other : Extent) → 1 ≤ one.len → 1 ≤ other.len → (AreDisjoint 32 (one ∷ other ∷ []) → ⊥)
    → (p : ℕ) × IsInside 32 one p × IsInside 32 other p
common_bit one other some more not =
    let a : ℕ = span_place 32 one in
    let b : ℕ = span_place 32 other in
    elim (cases_lt a b) [
      | inl before ↦ elim (cases_lt b (a + one.len)) [
        | inl here ↦ (b, (omega arith, here), (omega arith, omega arith))
        | inr past ↦ absurd (not (pair_disjoint one other (λ p inside low. absurd (omega (arith, inside.1)))))
      ]
      | inr from ↦ elim (cases_lt a (b + other.len)) [
        | inl here ↦ (a, (omega arith, omega arith), (from, here))
        | inr past ↦ absurd (not (pair_disjoint one other (λ p inside low. omega (arith, inside.0))))
      ]
    ]

-- the first n spans are apart
pub record ApartBelow (spans : List Extent) (n : ℕ) : Type 0 where
  pub apart : (s t : ℕ) → s < t → t < n → Apart (span_at spans s) (span_at spans t)

pub all_apart : (spans : List Extent) → ApartBelow spans (length spans) → AreDisjoint 32 spans
unfolding AreDisjoint
all_apart spans are s t p less within = are.apart s t less within p

pub some_apart : (spans : List Extent) (s t : ℕ) → AreDisjoint 32 spans → s < t → t < length spans
    → Apart (span_at spans s) (span_at spans t)
unfolding AreDisjoint
some_apart spans s t apart less within p = apart s t p less within

-- ---- a map of them

-- a place by its word and its index there
place_back : (p : ℕ) → p / 32 * 32 + p % 32 ≡ p
place_back p = omega arith

each_device : (devices : List Device) (k : ℕ) → k < length (extents_of devices)
    → (device : Device) × (span_at (extents_of devices) k ≡ extent_of device)
each_device [] k within = absurd (omega arith)
each_device (d ∷ ds) zero within = (d, refl)
each_device (d ∷ ds) (suc k) within = each_device ds k (omega arith)

pub map_made : (devices : List Device) (size : ℕ) → AreDisjoint 32 (extents_of devices)
    → AllFit 32 (extents_of devices) size → IsMap (registers (extents_of devices) size)
map_made devices size apart fit =
    let width = λ (k : ℕ) (within : k < length (extents_of devices)).
    let is = each_device devices k within in ap (λ (s : Extent). s.len) is.1 in
    record {
      disjoint = apart;
      fit = fit;
      heads = λ k within. let is = each_device devices k within in rw is.1 (omega arith);
      some = λ k within.
          let is = each_device devices k within in omega (arith, width k within, is.0.some);
      few = λ k within.
          let is = each_device devices k within in omega (arith, width k within, is.0.few);
      counted = λ k within.
          let is = each_device devices k within in
          let first : span_place 32 (span_at (extents_of devices) k) ≡ is.0.place =
          ap (span_place 32) is.1 ∙ place_back is.0.place in
          omega (arith, first, width k within, is.0.counted);
    }

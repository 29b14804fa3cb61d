-- Devices as a data sheet has them, and why a list of them makes no map.
use Rattle.std.specs.Prelude.{◌≡◌, ℕ, ◌+◌, ◌*◌, ◌/◌, ◌%◌, ◌<◌, Some, List, map, slice_get}
use Rattle.bit_addressing.specs.Span.{Extent, extent}
use Rattle.bit_addressing.specs.Runs.{IsInside}
use Rattle.register_map.specs.declared.device.Device.{Device}
use Rattle.register_map.specs.declared.errors.MapError.{MapError}
use Rattle.register_map.specs.declared.errors.MapError.TheVariants.{DoesNotFit, Overlap}

-- the span of a device's bits
abbrev pub extent_of : Device → Extent
extent_of device = extent (device.place / 32) (device.place % 32) device.width

-- those of many
abbrev pub extents_of : List Device → List Extent
extents_of devices = map extent_of devices

-- why devices make no map of so many words: one of that name ends beyond them; two of those names, the earlier one first,
-- have a bit in common
abbrev pub IsFault : List Device → ℕ → MapError → Type 0
IsFault devices size (DoesNotFit name n) =
    (n ≡ size) × ((k : ℕ) × (d : Device) × (slice_get devices k ≡ Some d) × (d.name ≡ name)
    × (size * 32 < d.place + d.width))
IsFault devices size (Overlap earlier later) =
    (j : ℕ) × (k : ℕ) × (d : Device) × (e : Device) × (j < k)
    × (slice_get devices j ≡ Some d) × (d.name ≡ earlier)
    × (slice_get devices k ≡ Some e) × (e.name ≡ later)
    × ((p : ℕ) × IsInside 32 (extent_of d) p × IsInside 32 (extent_of e) p)

use Rattle.std.proofs.Common.{ℕ, ◌<◌, ◌≤◌, length}
use Rattle.bit_addressing.specs.Span.{FitsIn}
use Rattle.bit_addressing.specs.Runs.{span_at}
use Rattle.register_map.specs.Devices.{extent_of, extents_of}
use Rattle.register_map.proofs.DeviceLemmas.{Apart, ApartBelow}
use Rattle.register_map.proofs.sheet.fault.Given as goal

abbrev pub invariant-loop-k : goal.invariant-loop-k
invariant-loop-k l = record {
  low : l.k ≤ length l.devices;
  fit : (s : ℕ) → s < l.k → FitsIn 32 (span_at (extents_of l.devices) s) l.size;
  apart : ApartBelow (extents_of l.devices) l.k;
}

abbrev pub invariant-loop-j : goal.invariant-loop-j
invariant-loop-j l = record {
  low : l.j ≤ l.k;
  apart : (s : ℕ) → s < l.j → Apart (span_at (extents_of l.devices) s) (extent_of l.device);
}

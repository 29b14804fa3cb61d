use Rattle.std.proofs.Common.{◌≡◌, length, map, take}
use Rattle.register_map.specs.Devices.{extent_of}
use Rattle.register_map.proofs.sheet.spans.Given as goal

abbrev pub invariant-loop-k : goal.invariant-loop-k
invariant-loop-k g l = record {
  size : length l.spans ≡ length l.devices;
  filled : take l.k l.spans ≡ map extent_of (take l.k l.devices);
}

use Rattle.std.proofs.Common.{◌≡◌, take}
use Rattle.std.specs.Prelude.{fold}
use Rattle.std.specs.Hash as fed
use Rattle.std.specs.List.{flat_map}
use Rattle.bit_slice_views.proofs.bits.Bits.hash_bits.Given as goal

-- the bits so far are fed
abbrev pub invariant-loop-i : goal.invariant-loop-i
invariant-loop-i g l =
    l.state ≡ fold g.H.Hasher.write l.initial.state (flat_map fed.bool (take l.i (g.Self.Bits.bits l.self)))

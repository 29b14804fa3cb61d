use Rattle.std.proofs.Common.{◌≡◌}
use Rattle.bit_addressing_memory.specs.Memory.{piece}
use Rattle.bit_slice_views.specs.Texts.{number_of}
use Rattle.bit_slice_views.proofs.text.group_at.Given as goal

-- the bits so far
abbrev pub invariant-loop-i : goal.invariant-loop-i
invariant-loop-i g l = l.number ≡ number_of (piece (g.V.Bits.bits l.view) l.from l.i)

use Rattle.std.proofs.Common.{map}
use Rattle.bit_addressing_order.specs.BitMask.{IsUnionOf}
use Rattle.bit_addressing_order.proofs.mask.BitMask.sum.Given as goal

-- the union of the selectors so far
abbrev pub invariant-loop-selector : goal.invariant-loop-selector
invariant-loop-selector g l =
    IsUnionOf (g.R.BitRegister.number l.sum) (map g.R.BitRegister.number l.yielded)

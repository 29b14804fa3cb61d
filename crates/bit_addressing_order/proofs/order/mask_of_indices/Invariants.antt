use Rattle.std.proofs.Common.{◌≡◌, ◌-◌}
use Rattle.bit_addressing_order.specs.BitOrder.{mask_from}
use Rattle.bit_addressing_order.proofs.order.mask_of_indices.Given as goal

-- the mask of the indices so far
abbrev pub invariant-loop-index : goal.invariant-loop-index
invariant-loop-index g l =
    g.R.BitRegister.number l.mask ≡ mask_from g.P.Positions.position l.first (l.index - l.first)

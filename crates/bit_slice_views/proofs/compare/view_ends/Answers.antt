use Rattle.bit_addressing_memory.specs.Memory.{read_by}
use Rattle.bit_slice_views.specs.View.{view_bits}
use Rattle.bit_slice_views.proofs.CompareLemmas.{ends_decided}
use Rattle.bit_slice_views.proofs.compare.view_ends.Goals as goal
use Rattle.std.proofs.Common.{arith}

pub returns-then-count-len : goal.returns-then-count-len
returns-then-count-len g c =
    ends_decided c.equal_views.result (view_bits (read_by g.T.BitRegister g.O.Positions.position) c.args.view)
    (view_bits (read_by g.Q.BitRegister g.P.Positions.position) c.args.other) _ c.len-then-count-len.result
    c.len-count.result c.len-then-count-len.ensures c.len-count.ensures
    (omega (arith, c.if-count-len.true, c.len.ensures, c.len-then-count-len.ensures))
    c.part.ensures.bits c.equal_views.ensures

use Rattle.bit_addressing_memory.specs.Memory.{read_by}
use Rattle.bit_slice_views.specs.View.{view_bits}
use Rattle.bit_slice_views.proofs.CompareLemmas.{starts_decided}
use Rattle.bit_slice_views.proofs.compare.view_starts.Goals as goal

pub returns-then-count-len : goal.returns-then-count-len
returns-then-count-len g c =
    starts_decided c.equal_views.result (view_bits (read_by g.T.BitRegister g.O.Positions.position) c.args.view)
    (view_bits (read_by g.Q.BitRegister g.P.Positions.position) c.args.other) _ _ c.len-count.ensures
    c.part.ensures.bits c.equal_views.ensures

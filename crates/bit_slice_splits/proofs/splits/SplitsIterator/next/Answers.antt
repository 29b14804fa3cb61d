use Rattle.std.proofs.Common.{◌&&◌}
use Rattle.bit_slice_splits.proofs.CountLemmas.{both_left}
use Rattle.bit_slice_splits.proofs.splits.SplitsIterator.next.Goals as goal

pub returns-clause-goes : goal.returns-clause-goes
returns-clause-goes g c =
    let a = g.A.SplitEnd.IS_INCLUSIVE in
    let b = g.B.SplitEnd.IS_INCLUSIVE in
    c.take_part.ensures.goes (a && b) (both_left a b)

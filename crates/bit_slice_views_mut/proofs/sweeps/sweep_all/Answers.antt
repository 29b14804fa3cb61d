use Rattle.std.proofs.Common.{rules}
use Rattle.bit_slice_views_mut.proofs.sweeps.sweep_all.Goals as goal

pub returns-clause-ran : goal.returns-clause-ran
returns-clause-ran g c =
    let fresh = c.new-sweep.ensures.fresh in
    (c.new-sweep.result, c.run.new.sweep, fresh, c.new-sweep.ensures.words, c.run.ensures.ran, search rules)

use Rattle.std.proofs.Common.{rules}
use Rattle.bit_slice_views_mut.proofs.sweeps.run.Goals as goal

pub returns-clause-lender : goal.returns-clause-lender
returns-clause-lender g c = (c.requires.keeps c.args.sweep.now c.f.new.arg2 (search rules)).0

pub returns-clause-len : goal.returns-clause-len
returns-clause-len g c = (c.requires.keeps c.args.sweep.now c.f.new.arg2 (search rules)).1

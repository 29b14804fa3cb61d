use Rattle.std.proofs.Common.{rules}
use Rattle.bit_slice_access.proofs.halves.run.Goals as goal

pub returns-clause-kept : goal.returns-clause-kept
returns-clause-kept g c = c.requires.keeps c.args.halves.now c.f.result c.f.new.arg2 (search rules)

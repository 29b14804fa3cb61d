use Rattle.std.proofs.Common.{rules}
use Rattle.bit_slice_views_mut.proofs.view_mut.apply.Goals as goal

pub returns-clause-count : goal.returns-clause-count
returns-clause-count g c = c.requires.keeps c.args.words.now c.f.result c.f.new.arg2 (search rules)

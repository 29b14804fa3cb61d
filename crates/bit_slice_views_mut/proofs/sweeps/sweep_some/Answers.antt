use Rattle.std.proofs.Common.{◌∙◌, ap}
use Rattle.bit_addressing_memory.specs.Memory.{with_piece}
use Rattle.bit_slice_views_mut.proofs.MidLemmas.{mid_piece, mid_with}
use Rattle.bit_slice_views_mut.proofs.sweeps.sweep_some.Goals as goal

pub sweep_all-requires-clause-callable : goal.sweep_all-requires-clause-callable
sweep_all-requires-clause-callable g c s fresh same = c.requires.callable s fresh (mid_piece _ _ _ _ same)

pub returns-clause-ran : goal.returns-clause-ran
returns-clause-ran g c =
    let r = c.sweep_all.ensures.ran in (
      r.0,
      r.1,
      r.2,
      mid_piece _ _ _ _ r.3,
      r.4,
      mid_with _ _ c.args.first c.args.count c.requires.within c.sweep_all.ensures.len
          ∙ ap (with_piece c.args.words.now c.args.first) r.5,
    )

use Rattle.std.proofs.Common.{◌/◌, ap, ◌∙◌}
use Rattle.bit_addressing_memory.specs.Memory.{piece, with_piece}
use Rattle.bit_addressing_memory.specs.Sweep.{sweep_words}
use Rattle.bit_slice_views_mut.proofs.sweeps.sweep_stretch.Goals as goal

pub sweep_some-requires-clause-callable : goal.sweep_some-requires-clause-callable
sweep_some-requires-clause-callable g c s fresh same =
    c.requires.callable s fresh (same
    ∙ ap (λ b. piece c.args.words.now (c.args.place / b) c.words_of-count.result) c.bits_of.ensures
    ∙ ap (piece c.args.words.now (c.args.place / g.T.BitRegister.BITS)) c.words_of-count.ensures.value)

pub returns-clause-ran : goal.returns-clause-ran
returns-clause-ran g c =
    let r = c.sweep_some.ensures.ran in (
      r.0,
      r.1,
      r.2,
      r.3
          ∙ ap (λ b. piece c.args.words.now (c.args.place / b) c.words_of-count.result) c.bits_of.ensures
          ∙ ap (piece c.args.words.now (c.args.place / g.T.BitRegister.BITS)) c.words_of-count.ensures.value,
      r.4,
      r.5 ∙ ap (λ b. with_piece c.args.words.now (c.args.place / b) (sweep_words r.1)) c.bits_of.ensures,
    )

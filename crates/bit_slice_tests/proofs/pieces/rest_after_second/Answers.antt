use Rattle.std.proofs.Common.{sym, ap, ◌∙◌}
use Rattle.bit_addressing_memory.specs.Memory.{read_by}
use Rattle.bit_slice_views.specs.View.{view_bits, view_head}
use Rattle.bit_slice_iterators.specs.Cuts.{GivesFirst}
use Rattle.bit_slice_iterators.proofs.CallerLemmas.{kept_by_nth}
use Rattle.bit_slice_tests.proofs.pieces.rest_after_second.Goals as goal

pub returns-clause-bits : goal.returns-clause-bits
returns-clause-bits g c =
    let shown = view_bits (read_by g.T.BitRegister g.O.Positions.position) in
    let kept = kept_by_nth (GivesFirst shown view_head) (λ s r t step. step.2) c.new-pieces.result 1 c.nth.result
    c.nth.new.self c.nth.ensures.ran in
    cc (c.remainder.ensures.bits, kept.0, kept.2, c.new-pieces.ensures.bits, c.new-pieces.ensures.size)

pub returns-clause-head : goal.returns-clause-head
returns-clause-head g c =
    let shown = view_bits (read_by g.T.BitRegister g.O.Positions.position) in
    let kept = kept_by_nth (GivesFirst shown view_head) (λ s r t step. step.2) c.new-pieces.result 1 c.nth.result
    c.nth.new.self c.nth.ensures.ran in
    cc (
      c.remainder.ensures.head,
      kept.0,
      kept.1,
      kept.2,
      c.new-pieces.ensures.bits,
      c.new-pieces.ensures.head,
      c.new-pieces.ensures.size,
    )

use Rattle.std.proofs.lemmas.Iterator.Consumers.{nth_from_yields_List}
use Rattle.bit_addressing_memory.specs.Memory.{read_by}
use Rattle.bit_slice_views.specs.View.{view_bits, view_head}
use Rattle.bit_slice_iterators.proofs.CallerLemmas.{heads_run, pieces_run}
use Rattle.bit_slice_tests.proofs.pieces.third_chunk.Goals as goal

pub returns-clause-bits : goal.returns-clause-bits
returns-clause-bits g c =
    let shown = view_bits (read_by g.T.BitRegister g.O.Positions.position) in
    nth_from_yields_List c.nth.result c.nth.new.self 2 c.nth.ensures.ran
    (pieces_run shown view_head c.new-pieces.result _ c.new-pieces.ensures.left)

pub returns-clause-head : goal.returns-clause-head
returns-clause-head g c =
    let shown = view_bits (read_by g.T.BitRegister g.O.Positions.position) in
    nth_from_yields_List c.nth.result c.nth.new.self 2 c.nth.ensures.ran
    (heads_run shown view_head c.new-pieces.result _ c.new-pieces.ensures.heads)

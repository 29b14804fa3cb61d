use Rattle.std.proofs.Common.{◌∙◌, arith}
use Rattle.bit_addressing_memory.specs.Memory.{read_by}
use Rattle.bit_addressing_memory.proofs.WindowLemmas.{length-window}
use Rattle.bit_slice_views.proofs.ViewLemmas.{view_front, view_rest}
use Rattle.bit_slice_views.proofs.view.BitSlice.split_at.Goals as goal

pub returns-clause-left : goal.returns-clause-left
returns-clause-left g c = c.part.ensures.bits ∙ view_front _ _

pub returns-clause-right : goal.returns-clause-right
returns-clause-right g c =
    let v = c.args.self in
    c.part-2.ensures.bits ∙ view_rest _ _ _
    (omega (arith, length-window (read_by g.T.BitRegister g.O.Positions.position) v.words.now v.head v.len v.fits))

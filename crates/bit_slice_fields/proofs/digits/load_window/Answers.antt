use Rattle.std.proofs.Common.{◌∙◌, ap, sym}
use Rattle.bit_addressing_memory.specs.Memory.{read_by}
use Rattle.bit_slice_views.specs.View.{view_bits}
use Rattle.bit_slice_fields.specs.Whole.{low_digits}
use Rattle.bit_slice_fields.proofs.DigitsLemmas.{held_bits}
use Rattle.bit_slice_fields.proofs.digits.load_window.Goals as goal

pub returns-clause-bits : goal.returns-clause-bits
returns-clause-bits g c =
    let shown = view_bits (read_by g.T.BitRegister g.O.Positions.position) c.args.view in
    let cut = c.args.cut in
    held_bits cut.low cut.le g.T.BitRegister.BITS cut.head c.gathered-digits.result shown
    (g.M.Integral.whole c.from_digits.result) c.gathered-digits.ensures
    (ap (λ n. low_digits n (g.M.Integral.whole c.from_digits.result)) (sym c.len.ensures) ∙ c.from_digits.ensures.digits)

use Rattle.std.proofs.Common.{◌≡◌, ◌/◌, length, sym, ap, ◌∙◌}
use Rattle.bit_addressing_memory.specs.Memory.{piece, read_by, touched}
use Rattle.bit_addressing_memory.proofs.WindowLemmas.{length-window}
use Rattle.bit_slice_views_mut.specs.ViewMut.{lent_bits}
use Rattle.bit_slice_views_mut.proofs.view_mut.BitSliceMut.sweep.Goals as goal

pub returns-clause-ran : goal.returns-clause-ran
returns-clause-ran g c =
    let v = c.args.self.now in
    let reading = read_by g.T.BitRegister g.O.Positions.position in
    let size : length (lent_bits reading v) ≡ v.len = length-window reading v.words.now v.head v.len v.fits in
    let r = c.sweep_stretch.ensures.ran in (
      r.0,
      r.1,
      r.2,
      r.3
          ∙ ap (λ n. piece v.words.now (v.head / g.T.BitRegister.BITS) (touched g.T.BitRegister.BITS v.head n))
          (sym size),
      r.4,
      r.5,
    )

use Rattle.std.proofs.Common.{Bool, sym, ap, ◌∙◌, arith}
use Rattle.std.specs.Prelude.{◌&&◌}
use Rattle.bit_addressing_memory.specs.Memory.{memory, piece, read_by}
use Rattle.bit_slice_views_mut.specs.Combined.{combined}
use Rattle.bit_slice_views_mut.proofs.CombinedLemmas.{and_zero, combined_cleared}
use Rattle.bit_slice_views_mut.proofs.combine.and_window.Goals as goal

pub returns-clause-list : goal.returns-clause-list
returns-clause-list g c =
    let how : Bool → Bool → Bool = (λ (a b : Bool). a && b) in
    combined_cleared (read_by g.R.BitRegister g.O.Positions.position) c.args.words.now c.fill_in.new.words c.args.place
    c.args.len (read_by g.Q.BitRegister g.P.Positions.position) c.parts-head.result.0.now c.parts-head.result.1
    c.parts-head.result.2 how (omega (arith, g.met.R.BitRegister.least_bits))
    (omega (arith, g.met.Q.BitRegister.least_bits)) c.requires.within c.parts-head.ensures.fits
    c.and_in.new.words and_zero _ c.min-shared.ensures c.and_in.ensures.combined c.fill_in.ensures.filled
    ∙ ap (combined how (piece (memory (read_by g.R.BitRegister g.O.Positions.position) c.args.words.now) c.args.place
    c.args.len)) (sym c.parts-head.ensures.bits)

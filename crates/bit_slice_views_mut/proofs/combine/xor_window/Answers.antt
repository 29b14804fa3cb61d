use Rattle.std.proofs.Common.{Bool, sym, ap, ◌∙◌, arith}
use Rattle.std.specs.Bool.{xor}
use Rattle.bit_addressing_memory.specs.Memory.{memory, piece, read_by}
use Rattle.bit_slice_views_mut.specs.Combined.{combined}
use Rattle.bit_slice_views_mut.proofs.CombinedLemmas.{xor_zero, combined_kept}
use Rattle.bit_slice_views_mut.proofs.combine.xor_window.Goals as goal

pub returns-clause-list : goal.returns-clause-list
returns-clause-list g c =
    let how : Bool → Bool → Bool = xor in
    combined_kept (read_by g.R.BitRegister g.O.Positions.position) c.args.words.now c.xor_in.new.words c.args.place
    c.args.len (read_by g.Q.BitRegister g.P.Positions.position) c.parts-head.result.0.now c.parts-head.result.1
    c.parts-head.result.2 how (omega (arith, g.met.R.BitRegister.least_bits))
    (omega (arith, g.met.Q.BitRegister.least_bits)) c.requires.within c.parts-head.ensures.fits
    xor_zero _ c.min.ensures c.xor_in.ensures.combined
    ∙ ap (combined how (piece (memory (read_by g.R.BitRegister g.O.Positions.position) c.args.words.now) c.args.place
    c.args.len)) (sym c.parts-head.ensures.bits)

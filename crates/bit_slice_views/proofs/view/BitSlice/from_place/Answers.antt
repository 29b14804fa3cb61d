use Rattle.std.proofs.Common.{length, arith}
use Rattle.bit_addressing_memory.specs.Memory.{read_by}
use Rattle.bit_slice_views.proofs.ViewLemmas.{view_place, word_of}
use Rattle.bit_slice_views.proofs.view.BitSlice.from_place.Goals as goal

pub returns-clause-bits : goal.returns-clause-bits
returns-clause-bits g c =
    let size = c.bits_of-bits.ensures in
    let inside = word_of g.T.BitRegister.BITS _ c.args.place (length c.args.words.now) size
    (omega (arith, g.met.T.BitRegister.least_bits)) (omega (arith, c.requires.fits)) in
    view_place (read_by g.T.BitRegister g.O.Positions.position) _ c.args.words.now _ c.args.place c.args.len size
    c.words_from.ensures inside

use Rattle.bit_addressing_memory.specs.Memory.{read_by}
use Rattle.bit_addressing_memory.proofs.WindowLemmas.{length-window}
use Rattle.bit_slice_views.proofs.index.AnyBitSliceIndex.show.Goals as goal

pub returns-in-Some : goal.returns-in-Some
returns-in-Some g c =
    let reading = read_by g.T.BitRegister g.O.Positions.position in
    let size = length-window reading c.args.words.now c.args.head c.args.len c.requires.fits in
    let v = c.in-Some.ensures.value in
    (cc (c.part.ensures.bits, c.from_parts-view.ensures.bits), cc (c.part.ensures.head, c.from_parts-view.ensures.head))

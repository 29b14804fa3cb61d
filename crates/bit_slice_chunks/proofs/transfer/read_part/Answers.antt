use Rattle.bit_addressing_memory.proofs.Common.{◌+◌, ◌*◌, refl, arith, read_by}
use Rattle.bit_addressing_memory.proofs.TransferLemmas.{part_upto, read_all, read_first}
use Rattle.bit_slice_chunks.proofs.transfer.read_part.Goals as goal

pub returns : goal.returns
returns g c =
    let b = g.R.BitRegister.BITS in
    let reading = read_by g.R.BitRegister g.O.Positions.position in
    let words = c.args.words.now in
    let direction = c.args.straight.direction in
    let from = c.args.from in
    let count = c.args.count in
    let place = c.args.word * b + from in
    let end = (c.args.word + 1) * b in
    read_all reading words place end count direction c.part-chunk.result c.first_bits.result
    (omega (arith, c.requires.within))
    (read_first reading direction words place count c.args.word from (from + count) c.part-chunk.result end
    c.index-words-word.result refl refl c.requires.few (omega (arith, c.requires.within))
    (part_upto reading c.index-words-word.result from (from + count) b direction c.part-chunk.result c.requires.within
    c.part-chunk.ensures)
    c.requires.inside c.index-words-word.is)
    c.first_bits.ensures

use Rattle.std.proofs.Common.{◌+◌, ◌*◌, ◌<◌, arith}
use Rattle.bit_addressing_memory.specs.Memory.{read_by}
use Rattle.bit_slice_fields.specs.Digits.{cut_weight}
use Rattle.bit_slice_fields.specs.Pieces.{way_for}
use Rattle.bit_slice_fields.proofs.PieceLemmas.{written_piece}
use Rattle.bit_slice_fields.proofs.SegmentLemmas.{segment_piece}
use Rattle.bit_slice_fields.proofs.digits.put_segment.Goals as goal

pub returns : goal.returns
returns g c =
    let b = g.T.BitRegister.BITS in
    let cut = c.args.cut in
    let n = c.args.n in
    let segment = c.args.segment in
    let weight = c.weight_of_segment-weight.result in
    let some : 0 < b = omega (arith, g.met.T.BitRegister.least_bits) in
    let is =
    segment_piece b cut.head n c.args.place segment some c.requires.head c.requires.begins c.requires.is cut.low cut.le
    weight c.requires.mirrored c.requires.few c.weight_of_segment-weight.ensures.value in
    written_piece (read_by g.T.BitRegister g.O.Positions.position) c.args.words.now c.write_part.new.words
    (cut_weight cut b n) n segment.from segment.len weight c.args.digits c.chunk_from-chunk.result
    (segment.word * b + segment.index) (c.args.place + segment.from) (way_for cut.low) is
    c.chunk_from-chunk.ensures c.requires.is.place
    (rw c.straight_of-straight.ensures at c.write_part.ensures)

use Rattle.std.proofs.Common.{◌+◌, ◌*◌, ◌<◌, refl, sym, arith}
use Rattle.std.proofs.Math.Nat.{mod-eq_of_lt}
use Rattle.bit_addressing_memory.specs.Memory.{memory, piece, read_by}
use Rattle.bit_addressing_memory.proofs.WindowLemmas.{length-window}
use Rattle.bit_slice_fields.specs.Pieces.{way_for}
use Rattle.bit_slice_fields.proofs.PieceLemmas.{piece_read, gathered_more}
use Rattle.bit_slice_fields.proofs.SegmentLemmas.{segment_piece}
use Rattle.bit_slice_fields.proofs.digits.with_segment.Goals as goal

pub returns : goal.returns
returns g c =
    let reading = read_by g.T.BitRegister g.O.Positions.position in
    let b = g.T.BitRegister.BITS in
    let cut = c.args.cut in
    let n = c.args.n in
    let segment = c.args.segment in
    let words = c.args.words.now in
    let shown = piece (memory reading words) cut.head n in
    let some : 0 < b = omega (arith, g.met.T.BitRegister.least_bits) in
    let is =
    segment_piece b cut.head n cut.head segment some c.requires.head (mod-eq_of_lt c.requires.head) c.requires.is
    cut.low cut.le c.weight_of_segment-weight.result c.requires.mirrored c.requires.few
    c.weight_of_segment-weight.ensures.value in
    let has =
    piece_read (way_for cut.low) reading words cut.head n segment.from segment.len (segment.word * b + segment.index)
    c.read_digits-more.result shown some is.inside c.requires.is.place refl
    (rw c.straight_of-straight.ensures at c.read_digits-more.ensures) in
    gathered_more cut.low cut.le 64 b b cut.head n n segment.from segment.len c.weight_of_segment-weight.result
    c.args.digits c.read_digits-more.result c.with_few.result (segment.from + segment.len) shown (way_for cut.low) some
    c.requires.few refl refl (sym (length-window reading words cut.head n c.requires.fits)) is has
    c.with_few.ensures refl c.requires.had

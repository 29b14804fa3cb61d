use Rattle.std.proofs.Common.{◌≡◌, ◌+◌, ◌<◌, length, refl, arith}
use Rattle.bit_addressing_memory.specs.Memory.{read_by}
use Rattle.bit_slice_views.specs.View.{view_bits}
use Rattle.bit_slice_fields.specs.Digits.{cut_weight}
use Rattle.bit_slice_fields.specs.Pieces.{way_for}
use Rattle.bit_slice_fields.proofs.DigitsLemmas.{gathered_none, gathered_all}
use Rattle.bit_slice_fields.proofs.PieceLemmas.{piece_digits, gathered_more}
use Rattle.bit_slice_fields.proofs.digits.gathered_by_pieces.Goals as goal

pub loop-from-init : goal.loop-from-init
loop-from-init g c =
    let shown = view_bits (read_by g.T.BitRegister g.O.Positions.position) c.args.view in
    record {
      digits = gathered_none (cut_weight c.args.cut g.T.BitRegister.BITS (length shown)) shown;
      upto = omega arith;
    }

pub loop-from-preserved : goal.loop-from-preserved
loop-from-preserved g c =
    let reading = read_by g.T.BitRegister g.O.Positions.position in
    let shown = view_bits reading c.args.view in
    let cut = c.args.cut in
    let from = c.loop-from.from in
    let head = c.parts-head.result.1 in
    let len = c.parts-head.result.2 in
    let piece = c.piece_of-piece.result in
    let some : 0 < g.T.BitRegister.BITS = omega (arith, g.met.T.BitRegister.least_bits) in
    let is = c.piece_of-piece.ensures in
    let chunk = rw c.straight_of-straight.ensures at c.read_bits-chunk.ensures in
    let has =
    piece_digits (way_for cut.low) reading c.parts-head.result.0.now head len from piece.len (head + from)
    c.read_bits-chunk.result c.digits_of-more.result shown some is.inside is.some is.few refl
    c.parts-head.ensures.bits c.read_bits-chunk.type_inv (rw c.straight_of-straight.ensures at c.digits_of-more.ensures) chunk in
    record {
      digits =
          gathered_more cut.low cut.le 128 g.T.BitRegister.BITS c.bits_of-bits.result cut.head (length shown) len from
          piece.len piece.weight c.loop-from.digits c.digits_of-more.result c.with_piece-digits.result
          (from + piece.len) shown (way_for cut.low) some c.requires.short c.bits_of-bits.ensures c.parts-head.ensures.len refl is has
          c.with_piece-digits.ensures refl c.loop-from.invariant.digits;
      upto = omega (arith, is.inside);
    }

pub returns : goal.returns
returns g c =
    let shown = view_bits (read_by g.T.BitRegister g.O.Positions.position) c.args.view in
    let all : c.loop-from.from ≡ length shown =
    omega (arith, c.loop-from-test.false, c.loop-from.invariant.upto, c.parts-head.ensures.len) in
    gathered_all (cut_weight c.args.cut g.T.BitRegister.BITS (length shown)) shown c.loop-from.from c.loop-from.digits
    all c.loop-from.invariant.digits

use Rattle.std.proofs.Common.{◌≡◌, ◌+◌, refl, subst, arith}
use Rattle.bit_addressing_memory.specs.Bits.{digit_at}
use Rattle.bit_addressing_memory.specs.Memory.{read_by, Overwrites}
use Rattle.bit_addressing_memory.proofs.TransferLemmas.{write_none}
use Rattle.bit_slice_fields.specs.Digits.{cut_weight}
use Rattle.bit_slice_fields.specs.Pieces.{way_for}
use Rattle.bit_slice_fields.proofs.PieceLemmas.{scattered_piece}
use Rattle.bit_slice_fields.proofs.digits.scatter_by_pieces.Goals as goal

pub loop-from-init : goal.loop-from-init
loop-from-init g c = record {
  written =
      write_none (read_by g.T.BitRegister g.O.Positions.position) c.args.words.now c.args.place 0
      (λ k. digit_at c.args.digits (cut_weight c.args.cut g.T.BitRegister.BITS c.args.len k)) refl;
  upto = omega arith;
}

pub loop-from-preserved : goal.loop-from-preserved
loop-from-preserved g c =
    let cut = c.args.cut in
    let from = c.loop-from.from in
    let piece = c.piece_of-piece.result in
    let is = rw c.bits_of-bits.ensures at c.piece_of-piece.ensures in
    let wrote = rw c.straight_of-straight.ensures at c.write_bits.ensures in
    record {
      written =
          scattered_piece (read_by g.T.BitRegister g.O.Positions.position) c.args.words.now c.loop-from.words
          c.write_bits.new.words (cut_weight cut g.T.BitRegister.BITS c.args.len) c.args.place c.args.len from piece.len
          piece.weight c.args.digits c.chunk_from-chunk.result (c.args.place + from) (from + piece.len) (way_for cut.low)
          is c.chunk_from-chunk.ensures refl refl c.loop-from.invariant.written wrote;
      upto = omega (arith, is.inside);
    }

pub returns : goal.returns
returns g c =
    let weighs = cut_weight c.args.cut g.T.BitRegister.BITS c.args.len in
    let all : c.loop-from.from ≡ c.args.len = omega (arith, c.loop-from-test.false, c.loop-from.invariant.upto) in
    subst
    (λ n. Overwrites (read_by g.T.BitRegister g.O.Positions.position) c.args.words.now c.loop-from.words c.args.place n
    (λ k. digit_at c.args.digits (weighs k))) all c.loop-from.invariant.written

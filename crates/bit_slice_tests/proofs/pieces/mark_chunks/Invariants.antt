use Rattle.std.proofs.Common.{◌≡◌, ◌+◌, ◌-◌, ◌*◌, ◌<◌, ◌≤◌, ◌^◌, length}
use Rattle.std.specs.Int.{div_ceil}
use Rattle.bit_addressing_memory.specs.Memory.{read_by}
use Rattle.bit_addressing_span.specs.declared.span.TheConstants.{MAX_BITS}
use Rattle.bit_slice_iterators.specs.PiecesMut.{pieces_around, pieces_whole}
use Rattle.bit_slice_tests.specs.Marked.{marked}
use Rattle.bit_slice_tests.proofs.pieces.mark_chunks.Given as goal

abbrev pub invariant-loop-piece : goal.invariant-loop-piece
invariant-loop-piece g l = record {
  loan : l.pieces.of.ghost_name ≡ l.initial.pieces.of.ghost_name;
  size : l.pieces.by ≡ l.fn.size;
  len : l.pieces.len ≡ length (g.V.Bits.bits l.fn.view);
  order : l.pieces.front ≤ l.pieces.back;
  back : l.pieces.back ≡ div_ceil (length (g.V.Bits.bits l.fn.view)) l.fn.size;
  fits : l.pieces.head + l.pieces.len
      ≤ length (g.V.BitsMut.words l.pieces.of.now) * g.V.Store.BitRegister.BITS;
  short : l.pieces.len ≤ MAX_BITS;
  small : l.pieces.head + l.pieces.len < 2 ^ 63;
  whole : pieces_whole (read_by g.V.Store.BitRegister g.V.Order.Positions.position) g.V.BitsMut.words l.pieces
      ≡ marked (g.V.Bits.bits l.fn.view) l.fn.size l.pieces.front;
  around : pieces_around (read_by g.V.Store.BitRegister g.V.Order.Positions.position) g.V.BitsMut.lender
      g.V.BitsMut.words l.pieces ≡ g.V.BitsMut.frame l.fn.view;
}

abbrev pub decreases-loop-piece : goal.decreases-loop-piece
decreases-loop-piece g l = l.pieces.back - l.pieces.front

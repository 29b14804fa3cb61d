use Rattle.std.proofs.Common.{◌+◌, ◌-◌, ◌*◌, ◌<◌, ◌≤◌, ◌^◌, length}
use Rattle.std.specs.Int.{div_ceil}
use Rattle.bit_addressing_span.specs.declared.span.TheConstants.{MAX_BITS}
use Rattle.bit_slice_tests.proofs.piece_rows.store_fours.Given as goal

abbrev pub invariant-loop-piece : goal.invariant-loop-piece
invariant-loop-piece g l = record {
  some : 0 < l.pieces.by;
  order : l.pieces.front ≤ l.pieces.back;
  within : l.pieces.back ≤ div_ceil l.pieces.len l.pieces.by;
  fits : l.pieces.head + l.pieces.len
      ≤ length (g.V.BitsMut.words l.pieces.of.now) * g.V.Store.BitRegister.BITS;
  short : l.pieces.len ≤ MAX_BITS;
  small : l.pieces.head + l.pieces.len < 2 ^ 63;
}

abbrev pub decreases-loop-piece : goal.decreases-loop-piece
decreases-loop-piece g l = l.pieces.back - l.pieces.front

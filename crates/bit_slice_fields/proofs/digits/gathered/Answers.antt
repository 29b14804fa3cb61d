use Rattle.std.proofs.Common.{◌+◌, ◌*◌, ◌<◌, length, refl, ap, ◌∙◌, arith}
use Rattle.bit_addressing_memory.specs.Memory.{memory, piece, read_by}
use Rattle.bit_slice_views.specs.View.{view_bits}
use Rattle.bit_slice_fields.specs.Digits.{cut_weight}
use Rattle.bit_slice_fields.specs.Pieces.{way_for}
use Rattle.bit_slice_fields.proofs.PieceLemmas.{piece_read, piece_digits, whole_digits}
use Rattle.bit_slice_fields.proofs.digits.gathered.Goals as goal

pub returns-then-is_one_piece : goal.returns-then-is_one_piece
returns-then-is_one_piece g c =
    let reading = read_by g.T.BitRegister g.O.Positions.position in
    let shown = view_bits reading c.args.view in
    let cut = c.args.cut in
    let head = c.parts-head.result.1 in
    let len = c.parts-head.result.2 in
    let some : 0 < g.T.BitRegister.BITS = omega (arith, g.met.T.BitRegister.least_bits) in
    let is = c.is_one_piece.ensures c.if-is_one_piece.true in
    let chunk = rw c.straight_of-straight.ensures at c.read_field-all.ensures in
    let has =
    piece_digits (way_for cut.low) reading c.parts-head.result.0.now head len 0 len head c.read_field-all.result
    c.digits_of.result shown some (omega arith) is.some is.few (omega arith) c.parts-head.ensures.bits
    c.read_field-all.type_inv (rw c.straight_of-straight.ensures at c.digits_of.ensures) chunk in
    rw c.from-then-is_one_piece.ensures
    (whole_digits (cut_weight cut g.T.BitRegister.BITS (length shown)) (length shown) c.digits_of.result shown
    (way_for cut.low) refl (rw (c.bits_of-bits.ensures, c.parts-head.ensures.len) at is)
    (rw c.parts-head.ensures.len at has))

pub returns-then-goes_by_word : goal.returns-then-goes_by_word
returns-then-goes_by_word g c =
    let reading = read_by g.T.BitRegister g.O.Positions.position in
    let shown = view_bits reading c.args.view in
    let cut = c.args.cut in
    let head = c.parts-head.result.1 in
    let len = c.parts-head.result.2 in
    let some : 0 < g.T.BitRegister.BITS = omega (arith, g.met.T.BitRegister.least_bits) in
    let is = c.is_one_piece.ensures c.if-is_one_piece.true in
    let has =
    piece_read (way_for cut.low) reading c.parts-head.result.0.now head len 0 len
    (0 * g.T.BitRegister.BITS + head) c.read_digits-digits.result shown some is.inside (omega arith)
    c.parts-head.ensures.bits (rw c.straight_of-straight.ensures at c.read_digits-digits.ensures) in
    rw c.from.ensures
    (whole_digits (cut_weight cut g.T.BitRegister.BITS (length shown)) (length shown) c.read_digits-digits.result shown
    (way_for cut.low) refl (rw (c.bits_of-bits.ensures, c.parts-head.ensures.len) at is)
    (rw c.parts-head.ensures.len at has))

pub gathered_by_words-requires-clause-fits : goal.gathered_by_words-requires-clause-fits
gathered_by_words-requires-clause-fits g c =
    omega (arith, c.requires.begins, c.parts-head.ensures.head, c.parts-head.ensures.fits)

pub returns-then-goes_by_words : goal.returns-then-goes_by_words
returns-then-goes_by_words g c =
    let reading = read_by g.T.BitRegister g.O.Positions.position in
    let parts = c.parts-head in
    let head = parts.ensures.head ∙ c.requires.begins in
    let shows = ap (λ h. piece (memory reading parts.result.0.now) h parts.result.2) head in
    rw c.from-then-goes_by_words.ensures (rw (← shows, ← parts.ensures.bits, parts.ensures.len) at c.gathered_by_words.ensures)

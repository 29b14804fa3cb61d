use Rattle.std.proofs.Common.{◌≡◌, ℕ, ◌+◌, ◌*◌, ◌/◌, ◌%◌, refl, arith}
use Rattle.bit_addressing_memory.specs.Bits.{digit_at}
use Rattle.bit_addressing_memory.specs.Memory.{read_by}
use Rattle.bit_addressing_memory.proofs.TransferLemmas.{first_word, write_none}
use Rattle.bit_slice_fields.specs.Digits.{cut_weight}
use Rattle.bit_slice_fields.specs.Pieces.{way_for}
use Rattle.bit_slice_fields.proofs.PieceLemmas.{scattered_piece}
use Rattle.bit_slice_fields.proofs.digits.scatter.Goals as goal

pub returns-then-goes_by_word : goal.returns-then-goes_by_word
returns-then-goes_by_word g c =
    let reading = read_by g.T.BitRegister g.O.Positions.position in
    let b = g.T.BitRegister.BITS in
    let weighs = cut_weight c.args.cut b c.args.len in
    let digits = λ (k : ℕ). digit_at c.args.digits (weighs k) in
    let is = rw c.bits_of-bits.ensures at (c.is_one_piece.ensures c.if-is_one_piece.true) in
    let wrote = rw c.straight_of-straight.ensures at c.write_part.ensures in
    let word = c.args.place / c.bits_of-bits.result in
    let start = first_word b c.bits_of-bits.result c.args.place c.bits_of-bits.ensures in
    let index : c.args.place % c.bits_of-bits.result ≡ c.args.cut.head = rw c.bits_of-bits.ensures c.requires.begins in
    scattered_piece reading c.args.words.now c.args.words.now c.write_part.new.words weighs c.args.place c.args.len 0
    c.args.len 0 c.args.digits c.chunk_from-all.result (word * b + c.args.cut.head) c.args.len
    (way_for c.args.cut.low) is c.chunk_from-all.ensures (omega (arith, start, index)) (omega arith)
    (write_none reading c.args.words.now c.args.place 0 digits refl) wrote

-- a window that is one piece is written by the chunk of its digits
pub returns-then-is_one_piece : goal.returns-then-is_one_piece
returns-then-is_one_piece g c =
    let reading = read_by g.T.BitRegister g.O.Positions.position in
    let weighs = cut_weight c.args.cut g.T.BitRegister.BITS c.args.len in
    let digits = λ (k : ℕ). digit_at c.args.digits (weighs k) in
    let is = rw c.bits_of-bits.ensures at (c.is_one_piece.ensures c.if-is_one_piece.true) in
    let wrote = rw c.straight_of-straight.ensures at c.write_field.ensures in
    scattered_piece reading c.args.words.now c.args.words.now c.write_field.new.words weighs c.args.place c.args.len 0
    c.args.len 0 c.args.digits c.chunk_from-all.result c.args.place c.args.len (way_for c.args.cut.low) is
    c.chunk_from-all.ensures (omega arith) (omega arith)
    (write_none reading c.args.words.now c.args.place 0 digits refl) wrote

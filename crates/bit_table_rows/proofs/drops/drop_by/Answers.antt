use Rattle.std.proofs.Common.{arith}
use Rattle.bit_addressing_memory.specs.Memory.{read_by}
use Rattle.bit_containers_vector.specs.Vector.{vec_bits}
use Rattle.bit_table_rows.specs.Lists.{HasBits}
use Rattle.bit_table_rows.specs.RowsKept.{left_of}
use Rattle.bit_table_rows.proofs.WalkLemmas.{changed_in_back, changed_in_front}
use Rattle.bit_table_rows.proofs.drops.drop_by.Goals as goal

pub returns-then-list-letter-clause-changed : goal.returns-then-list-letter-clause-changed
returns-then-list-letter-clause-changed g c =
    let reading = read_by g.T.BitRegister g.O.Positions.position in
    let cut = c.split_at_mut-front.ensures in
    changed_in_front (λ w old new. HasBits reading (left_of (vec_bits reading w)) old new)
    c.args.lists.now c.split_at_mut-front.result.0.now c.split_at_mut-front.result.1.now cut.value
    c.args.list c.args.letter c.index-front-list.result c.index-back-0.result cut.front_len
    c.if-list-letter.true (omega (arith, cut.back_len, c.requires.letter))
    c.drop_flagged.new.list c.drop_flagged.ensures.bits

pub returns-else-list-letter-clause-changed : goal.returns-else-list-letter-clause-changed
returns-else-list-letter-clause-changed g c =
    let reading = read_by g.T.BitRegister g.O.Positions.position in
    let cut = c.split_at_mut-front-else-list-letter.ensures in
    changed_in_back (λ w old new. HasBits reading (left_of (vec_bits reading w)) old new)
    c.args.lists.now c.split_at_mut-front-else-list-letter.result.0.now
    c.split_at_mut-front-else-list-letter.result.1.now cut.value
    c.args.letter c.args.list c.index-front-letter.result c.index-back-0-else-list-letter.result cut.front_len
    (omega (arith, c.if-list-letter.false, c.requires.apart)) (omega (arith, cut.back_len, c.requires.list))
    c.drop_flagged-else-list-letter.new.list c.drop_flagged-else-list-letter.ensures.bits

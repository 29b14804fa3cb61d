use Rattle.std.proofs.Common.{arith}
use Rattle.std.specs.Simd.Lanes.{zip2}
use Rattle.bit_addressing_memory.specs.Memory.{read_by}
use Rattle.bit_containers_vector.specs.Vector.{vec_bits}
use Rattle.bit_table_layout.specs.Letters.{combined}
use Rattle.bit_table_rows.specs.Lists.{HasBits}
use Rattle.bit_table_rows.proofs.WalkLemmas.{changed_alone, changed_in_back, changed_in_front}
use Rattle.bit_table_rows.proofs.combine.combine_lists.Goals as goal

pub returns-then-letter-other-clause-changed : goal.returns-then-letter-other-clause-changed
returns-then-letter-other-clause-changed g c =
    let reading = read_by g.T.BitRegister g.O.Positions.position in
    let cut = c.split_at_mut-front.ensures in
    changed_in_front
    (λ w old new. HasBits reading (λ bits. zip2 (combined c.args.op) bits (vec_bits reading w)) old new)
    c.args.lists.now c.split_at_mut-front.result.0.now c.split_at_mut-front.result.1.now cut.value
    c.args.letter c.args.other c.index-front-letter.result c.index-back-0.result cut.front_len
    c.if-letter-other.true (omega (arith, cut.back_len, c.requires.other)) c.combine_list.new.list
    c.combine_list.ensures.bits

pub returns-then-other-letter-clause-changed : goal.returns-then-other-letter-clause-changed
returns-then-other-letter-clause-changed g c =
    let reading = read_by g.T.BitRegister g.O.Positions.position in
    let cut = c.split_at_mut-front-then-other-letter.ensures in
    changed_in_back
    (λ w old new. HasBits reading (λ bits. zip2 (combined c.args.op) bits (vec_bits reading w)) old new)
    c.args.lists.now c.split_at_mut-front-then-other-letter.result.0.now
    c.split_at_mut-front-then-other-letter.result.1.now cut.value c.args.other c.args.letter c.index-front-other.result
    c.index-back-0-then-other-letter.result cut.front_len c.if-other-letter.true
    (omega (arith, cut.back_len, c.requires.letter)) c.combine_list-then-other-letter.new.list
    c.combine_list-then-other-letter.ensures.bits

pub returns-else-other-letter-clause-changed : goal.returns-else-other-letter-clause-changed
returns-else-other-letter-clause-changed g c =
    let reading = read_by g.T.BitRegister g.O.Positions.position in
    changed_alone
    (λ w old new. HasBits reading (λ bits. zip2 (combined c.args.op) bits (vec_bits reading w)) old new)
    c.args.lists.now c.args.letter c.args.other c.index-lists-letter.result c.combine_alone.new.list c.requires.letter
    (omega (arith, c.if-letter-other.false, c.if-other-letter.false))
    (record {
      bits = c.combine_alone.ensures.bits;
      head = c.combine_alone.ensures.head;
      room = c.combine_alone.ensures.room;
    })

use Rattle.std.proofs.Common.{◌≡◌, ◌<◌, length, get_or, ◌∙◌, subst, arith}
use Rattle.std.proofs.lemmas.List.{get_or_default}
use Rattle.bit_addressing_memory.specs.Memory.{read_by}
use Rattle.bit_containers_vector.specs.Vector.{HasRoomFor}
use Rattle.bit_table_rows.specs.Lists.{HasBits}
use Rattle.bit_table_rows.proofs.WalkLemmas.{holds_goes_on, walk_goes_on}
use Rattle.bit_table_rows.proofs.lists.reserve_lists.Goals as goal

pub loop-list-preserved : goal.loop-list-preserved
loop-list-preserved g c =
    let reading = read_by g.T.BitRegister g.O.Positions.position in
    let i = c.loop-list.list-index in
    let lists = c.loop-list.lists in
    let v = c.list-item.result in
    let h = c.loop-list.invariant in
    let here : i < length c.args.lists.now = c.loop-list-test.true in
    let low : i < length lists = omega (arith, here, h.same.len) in
    record {
      same =
          walk_goes_on (λ k. HasBits reading (λ bits. bits)) i c.args.lists.now lists c.reserve.new.self h.same here
          (λ d. let was : v ≡ get_or c.args.lists.now i d =
          c.list-item.is ∙ get_or_default lists i v d low ∙ h.same.rest i d (omega arith) in
          subst (λ old. HasBits reading (λ bits. bits) old c.reserve.new.self) was
          (record {
            bits = rw (← c.list-item.is) at c.reserve.ensures.same.bits;
            head = rw (← c.list-item.is) at c.reserve.ensures.same.head;
            room = rw (← c.list-item.is) at c.reserve.ensures.same.room;
          }));
      room =
          holds_goes_on (λ v. HasRoomFor reading v c.args.more) i lists c.reserve.new.self low h.room
          (c.in_ok-reserve.ensures).ok;
    }

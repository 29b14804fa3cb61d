use Rattle.std.proofs.Common.{ℕ, ◌<◌, get_or}
use Rattle.bit_addressing_memory.specs.Memory.{read_by}
use Rattle.bit_containers_vector.specs.Vector.{HasRoomFor}
use Rattle.bit_table_rows.specs.Lists.{HasBits}
use Rattle.bit_table_rows.specs.Walk.{IsWalked}
use Rattle.bit_table_rows.proofs.lists.reserve_lists.Given as goal

abbrev pub invariant-loop-list : goal.invariant-loop-list
invariant-loop-list g l =
    let reading = read_by g.T.BitRegister g.O.Positions.position in
    record {
      same : IsWalked (λ k. HasBits reading (λ bits. bits)) l.list-index l.initial.lists l.lists;
      room : (k : ℕ) (d : _) → k < l.list-index → HasRoomFor reading (get_or l.lists k d) l.more;
    }

use Rattle.std.proofs.Common.{◌++◌}
use Rattle.bit_addressing_memory.specs.Memory.{read_by}
use Rattle.bit_containers_vector.specs.Vector.{vec_bits}
use Rattle.bit_table_rows.specs.Lists.{HasBits}
use Rattle.bit_table_rows.specs.Walk.{IsWalked}
use Rattle.bit_table_rows.proofs.lists.extend_lists.Given as goal

abbrev pub invariant-loop-list : goal.invariant-loop-list
invariant-loop-list g l =
    let reading = read_by g.T.BitRegister g.O.Positions.position in
    IsWalked (λ k. HasBits reading (λ bits. bits ++ vec_bits reading l.more)) l.list-index l.initial.lists l.lists

use Rattle.std.proofs.Common.{◌++◌, get_or}
use Rattle.bit_addressing_memory.specs.Memory.{read_by}
use Rattle.bit_containers_vector.specs.Vector.{vec_bits}
use Rattle.bit_table_rows.specs.Lists.{HasBits}
use Rattle.bit_table_rows.specs.Walk.{IsWalked}
use Rattle.bit_table_rows.proofs.lists.copy_lists.Given as goal

abbrev pub invariant-loop-i : goal.invariant-loop-i
invariant-loop-i g l =
    let reading = read_by g.T.BitRegister g.O.Positions.position in
    let other = read_by g.Q.BitRegister g.P.Positions.position in
    IsWalked (λ k old new. (d : _) → HasBits reading (λ bits. bits ++ vec_bits other (get_or l.others k d)) old new)
    l.i l.initial.lists l.lists

use Rattle.std.proofs.Common.{◌≡◌, ◌≤◌, ◌++◌, replicate}
use Rattle.bit_addressing_memory.specs.Memory.{read_by}
use Rattle.bit_containers_vector.specs.Vector.{vec_bits, room}
use Rattle.bit_containers_tests.proofs.reserved.push_within.Given as goal

abbrev pub invariant-loop-i : goal.invariant-loop-i
invariant-loop-i g l = record {
  bits : vec_bits (read_by g.T.BitRegister g.O.Positions.position) l.vector
      ≡ vec_bits (read_by g.T.BitRegister g.O.Positions.position) l.fn.vector ++ replicate l._i l.bit;
  room : room (read_by g.T.BitRegister g.O.Positions.position) l.fn.vector
      ≤ room (read_by g.T.BitRegister g.O.Positions.position) l.vector;
}

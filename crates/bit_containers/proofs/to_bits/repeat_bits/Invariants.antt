use Rattle.std.proofs.Common.{◌≡◌}
use Rattle.bit_slice.specs.Memory.{read_by}
use Rattle.bit_containers.specs.Repeated.{repeated}
use Rattle.bit_containers_vector.specs.Vector.{vec_bits, vec_head}
use Rattle.bit_slice.specs.View.{view_bits}
use Rattle.bit_containers.proofs.to_bits.repeat_bits.Given as goal

abbrev pub invariant-loop-i : goal.invariant-loop-i
invariant-loop-i g l = record {
  bits : vec_bits (read_by g.T.BitRegister g.O.Positions.position) l.made
      ≡ repeated l._i (view_bits (read_by g.T.BitRegister g.O.Positions.position) l.view);
  head : vec_head l.made ≡ 0;
}

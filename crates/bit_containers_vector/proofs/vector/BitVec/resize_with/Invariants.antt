use Rattle.std.proofs.Common.{◌≡◌, ◌≤◌, ◌-◌, ◌++◌, List, Bool, length}
use Rattle.bit_addressing_memory.specs.Memory.{read_by}
use Rattle.bit_addressing_span.specs.declared.span.TheConstants.{MAX_BITS}
use Rattle.bit_containers_vector.specs.Answers.{Answers}
use Rattle.bit_containers_vector.specs.Grown.{Extends}
use Rattle.bit_containers_vector.specs.Vector.{vec_bits, vec_head, room, HasRoomFor}
use Rattle.bit_containers_vector.proofs.vector.BitVec.resize_with.Given as goal

abbrev pub invariant-loop-i : goal.invariant-loop-i
invariant-loop-i g l =
    let reading = read_by g.T.BitRegister g.O.Positions.position in
    let list = vec_bits reading in record {
      callable : goal.F-IsAlwaysCallable g l.f;
      len : length (list l.self) ≡ l.i;
      bits : (ys : List Bool) × (list l.self ≡ list l.fn.self ++ ys)
          × Answers (goal.F-step g) l.fn.f l.old l.i ys l.f;
      words : (ys : List Bool) × Extends reading l.fn.self l.self ys;
      most : l.len ≤ MAX_BITS;
      space : HasRoomFor reading l.self (l.len - l.i);
      head : vec_head l.self ≡ vec_head l.fn.self;
      grown : room reading l.fn.self ≤ room reading l.self;
    }

use Rattle.std.proofs.Common.{◌≡◌, ◌≤◌, ◌+◌, ◌++◌, length, take, drop}
use Rattle.std.specs.Iterator.{size}
use Rattle.bit_addressing_memory.specs.Memory.{read_by}
use Rattle.bit_addressing_span.specs.declared.span.TheConstants.{MAX_BITS}
use Rattle.bit_containers_vector.specs.Vector.{vec_bits, vec_head, room}
use Rattle.bit_containers_vector.proofs.vector.BitVec.insert_all.Given as goal

abbrev pub invariant-loop-item : goal.invariant-loop-item
invariant-loop-item g l =
    let reading = read_by g.T.BitRegister g.O.Positions.position in
    let list = vec_bits reading in record {
      can : (goal.iterator-loop-item g).can_next l.item-iterator;
      finite : (goal.iterator-loop-item g).is_finite l.item-iterator;
      bits : list l.self ≡ take l.index (list l.initial.self) ++ l.yielded ++ drop l.index (list l.initial.self);
      most : length (list l.self) + (goal.iterator-loop-item g).remaining l.item-iterator ≤ MAX_BITS;
      few : length (list l.self) + (goal.iterator-loop-item g).remaining l.item-iterator
          ≤ length (list l.initial.self) + size (g.I.Iterator.remaining l.fn.items);
      place : l.place ≡ l.index + length l.yielded;
      len : length (list l.self) ≡ length (list l.initial.self) + length l.yielded;
      head : vec_head l.self ≡ vec_head l.initial.self;
      room : room reading l.initial.self ≤ room reading l.self;
    }

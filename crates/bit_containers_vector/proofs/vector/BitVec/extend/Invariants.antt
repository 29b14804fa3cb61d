use Rattle.std.proofs.Common.{◌<◌, ◌≤◌, ◌+◌, length}
use Rattle.std.specs.Iterator.{size}
use Rattle.bit_addressing_memory.specs.Memory.{read_by}
use Rattle.bit_addressing_span.specs.declared.span.TheConstants.{MAX_BITS}
use Rattle.bit_containers_vector.specs.Vector.{vec_bits, room}
use Rattle.bit_containers_vector.proofs.GatherLemmas.{Gathering}
use Rattle.bit_containers_vector.proofs.vector.BitVec.extend.Given as goal

abbrev pub invariant-loop-item : goal.invariant-loop-item
invariant-loop-item g l =
    let reading = read_by g.T.BitRegister g.O.Positions.position in
    let list = vec_bits reading in record {
      can : (goal.iterator-loop-item g).can_next l.item-iterator;
      finite : (goal.iterator-loop-item g).is_finite l.item-iterator;
      gathering : Gathering reading l.initial.self l.self l.gathered l.count l.yielded;
      short : l.count < 64;
      most : length (list l.self) + l.count + (goal.iterator-loop-item g).remaining l.item-iterator ≤ MAX_BITS;
      few : length (list l.self) + l.count + (goal.iterator-loop-item g).remaining l.item-iterator
          ≤ length (list l.initial.self) + size (g.I.Iterator.remaining l.fn.items);
      room : room reading l.initial.self ≤ room reading l.self;
    }

use Rattle.std.proofs.Common.{◌≡◌, ◌≤◌, ◌+◌, ◌*◌, ◌++◌, Bool, List, length}
use Rattle.std.specs.Iterator.{size}
use Rattle.bit_addressing_memory.specs.Memory.{memory, read_by}
use Rattle.bit_addressing_span.specs.declared.span.TheConstants.{MAX_BITS}
use Rattle.bit_containers_vector.specs.Grown.{Extends}
use Rattle.bit_containers_vector.specs.Vector.{vec_bits, vec_head, room}
use Rattle.bit_containers_vector.proofs.vector.BitVec.extend_elements.Given as goal

abbrev pub invariant-loop-word : goal.invariant-loop-word
invariant-loop-word g l =
    let reading = read_by g.T.BitRegister g.O.Positions.position in
    let list = vec_bits reading in record {
      can : (goal.iterator-loop-word g).can_next l.word-iterator;
      finite : (goal.iterator-loop-word g).is_finite l.word-iterator;
      bits : list l.self ≡ list l.initial.self ++ memory reading l.yielded;
      most : length (list l.self) + (goal.iterator-loop-word g).remaining l.word-iterator * g.T.BitRegister.BITS ≤ MAX_BITS;
      few : length (list l.self) + (goal.iterator-loop-word g).remaining l.word-iterator * g.T.BitRegister.BITS
          ≤ length (list l.initial.self) + size (g.I.Iterator.remaining l.fn.items) * g.T.BitRegister.BITS;
      head : vec_head l.self ≡ vec_head l.initial.self;
      words : (xs : List Bool) × Extends reading l.initial.self l.self xs;
      room : room reading l.initial.self ≤ room reading l.self;
    }

use Rattle.std.proofs.Common.{◌≡◌, ◌+◌, ◌-◌, drop, ap, ◌∙◌, arith}
use Rattle.bit_addressing_memory.specs.Memory.{memory, piece, read_by}
use Rattle.bit_slice_views.specs.View.{view_bits}
use Rattle.bit_containers_vector.specs.Vector.{vec_bits}
use Rattle.bit_containers_vector.proofs.EditLemmas.{piece_behind}
use Rattle.bit_containers_vector.proofs.WordLemmas.{length-bits}
use Rattle.bit_containers_vector.proofs.vector.BitVec.copy_from_index.Goals as goal

pub overflow_add-place : goal.overflow_add-place
overflow_add-place g c =
    let v = c.args.self.now in
    let size = length-bits (read_by g.T.BitRegister g.O.Positions.position) v v.fits in
    omega (arith, size, c.requires, v.short, v.inside, g.met.T.BitRegister.most_bits)

pub overflow_sub-self : goal.overflow_sub-self
overflow_sub-self g c =
    let v = c.args.self.now in
    omega (arith, length-bits (read_by g.T.BitRegister g.O.Positions.position) v v.fits, c.requires)

pub from_place-rest-requires-clause-fits : goal.from_place-rest-requires-clause-fits
from_place-rest-requires-clause-fits g c =
    let v = c.args.self.now in
    let size = length-bits (read_by g.T.BitRegister g.O.Positions.position) v v.fits in
    rw c.as_slice.ensures.value (omega (arith, size, c.requires, v.fits))

pub returns : goal.returns
returns g c =
    let v = c.args.self.now in
    let reading = read_by g.T.BitRegister g.O.Positions.position in
    let size = length-bits reading v v.fits in
    let rest = c.from_place-rest in
    let bits : view_bits reading rest.result ≡ drop c.args.index (vec_bits reading v) =
    rest.ensures.bits
    ∙ ap (λ ws. piece (memory reading ws) (v.head + c.args.index) (v.len - c.args.index)) c.as_slice.ensures.value
    ∙ piece_behind (memory reading v.words.items) v.head v.len c.args.index (v.len - c.args.index) (omega arith)
    (omega (arith, size, c.requires)) in
    rw (← rest.ensures.head, ← bits) c.from_bitslice.ensures

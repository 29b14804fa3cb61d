use Rattle.std.proofs.Common.{◌-◌, ◌<◌, ◌∷◌, [], length, get_or, false, arith, rules, ap, ◌∙◌, refl}
use Rattle.std.proofs.lemmas.List.{length-append}
use Rattle.bit_addressing_memory.specs.Memory.{piece, read_by}
use Rattle.bit_containers_array.specs.Array.{array_bits}
use Rattle.bit_containers_array.proofs.LeftLemmas.{left-last}
use Rattle.bit_containers_array.proofs.iter.IntoIterDoubleEndedIterator.next_back.Goals as goal

-- the piece before the bit that was read, and the bit
pub returns-clause-steps : goal.returns-clause-steps
returns-clause-steps g c =
    let it = c.args.self.now in
    let reading = read_by g.A.Store.BitRegister g.O.Positions.position in
    let all = array_bits reading g.A.BitViewSized.words it.array in
    let n = c.len-rest.result - 1 in
    let shown = c.as_bitslice-left.ensures.bits in
    let size = ap length shown in
    let some : 0 < length (piece all it.from it.count) = search (rules, arith, size) in
    let bits = left-last all it.from it.count c.bit-last.result n some (omega (arith, size, c.len-rest.ensures))
    (c.bit-last.ensures ∙ ap (λ xs. get_or xs n false) shown) in
    (bits, refl, refl)

pub returns-clause-goes : goal.returns-clause-goes
returns-clause-goes g c =
    let it = c.args.self.now in
    let reading = read_by g.A.Store.BitRegister g.O.Positions.position in
    let all = array_bits reading g.A.BitViewSized.words it.array in
    let size = ap length (returns-clause-steps g c).0
    ∙ length-append (piece all it.from (c.len-rest.result - 1)) (c.bit-last.result ∷ []) in
    search (rules, arith, size)

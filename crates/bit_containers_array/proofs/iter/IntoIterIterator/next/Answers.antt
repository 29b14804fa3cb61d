use Rattle.std.proofs.Common.{◌-◌, ◌<◌, length, get_or, false, arith, rules, ap, ◌∙◌, refl}
use Rattle.bit_addressing_memory.specs.Memory.{piece, read_by}
use Rattle.bit_containers_array.specs.Array.{array_bits, array_words}
use Rattle.bit_containers_array.proofs.LeftLemmas.{left_low, first_short, left-first}
use Rattle.bit_containers_array.proofs.iter.IntoIterIterator.next.Goals as goal

pub overflow_add-self : goal.overflow_add-self
overflow_add-self g c =
    let it = c.args.self.now in
    let reading = read_by g.A.Store.BitRegister g.O.Positions.position in
    let all = array_bits reading g.A.BitViewSized.words it.array in
    let size = ap length c.as_bitslice-left.ensures.bits in
    let some : 0 < length (piece all it.from it.count) = search (rules, arith, size) in
    let low = left_low all it.from it.count some in
    let short = first_short reading (array_words g.A.BitViewSized.words it.array) in
    search (rules, arith, low, short)

-- the bit that was read, and the piece behind it
pub returns-clause-steps : goal.returns-clause-steps
returns-clause-steps g c =
    let it = c.args.self.now in
    let reading = read_by g.A.Store.BitRegister g.O.Positions.position in
    let all = array_bits reading g.A.BitViewSized.words it.array in
    let shown = c.as_bitslice-left.ensures.bits in
    let size = ap length shown in
    let some : 0 < length (piece all it.from it.count) = search (rules, arith, size) in
    let bits = left-first all it.from it.count c.bit-first.result (c.len.result - 1) some
    (omega (arith, size, c.len.ensures)) (c.bit-first.ensures ∙ ap (λ xs. get_or xs 0 false) shown) in
    let low = left_low all it.from it.count some in
    (bits, refl, omega (arith, low))

pub returns-clause-goes : goal.returns-clause-goes
returns-clause-goes g c =
    let size = ap length (returns-clause-steps g c).0 in
    search (rules, arith, size)

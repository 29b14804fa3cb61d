use Rattle.std.proofs.Common.{◌≡◌, ◌+◌, ◌<◌, ◌^◌, List, ℕ, length, length-append, arith, sym, ap, ◌∙◌}
use Rattle.std.proofs.lemmas.List.Sums.{count_by-le-length}
use Rattle.std.specs.Int.RustNames.{count_ones}
use lib.Count.{ones-le}
use Rattle.bit_addressing_memory.specs.Memory.{read_by}
use Rattle.bit_slice_views.specs.Found.{is_bit}
use Rattle.bit_slice_views.specs.View.{view_bits}
use Rattle.bit_slice_iterators.specs.Indices.{held, indices}
use Rattle.bit_slice_iterators.proofs.HeldLemmas.{length-held}
use Rattle.bit_slice_iterators.proofs.IndexLemmas.{length-indices}
use Rattle.bit_slice_iterators.proofs.indices.IndicesExactSizeIterator.len.Goals as goal

pub overflow_add-result : goal.overflow_add-result
overflow_add-result g c = let fits : c.self.inside.ahead < 2 ^ 64 = omega arith in
    let few = ones-le 64 c.self.inside.ahead fits in
    let bits = view_bits (read_by g.T.BitRegister g.O.Positions.position) c.self.inside.view in
    omega (arith, c.count.ensures, count_by-le-length (is_bit g.B.Sought.bit) bits)

pub returns-clause-value : goal.returns-clause-value
returns-clause-value g c =
    let bits = view_bits (read_by g.T.BitRegister g.O.Positions.position) c.self.inside.view in
    let test = is_bit g.B.Sought.bit in
    let ahead : List ℕ = held c.self.inside.base c.self.inside.ahead in
    let left : List ℕ = indices test c.self.inside.from bits in
    let counted : c.count.result ≡ length left =
    c.count.ensures ∙ sym (length-indices test c.self.inside.from bits) in
    let shown : length c.args.self.now ≡ length ahead + length left =
    ap length (sym c.self.view_is) ∙ length-append ahead left in
    let ones : length ahead ≡ count_ones c.self.inside.ahead =
    length-held c.self.inside.base c.self.inside.ahead (omega arith) in
    omega arith

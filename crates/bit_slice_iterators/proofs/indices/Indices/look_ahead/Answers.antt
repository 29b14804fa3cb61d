use Rattle.std.proofs.Common.{◌≡◌, ◌+◌, ◌-◌, length, min, refl, ap, ◌∙◌, arith}
use Rattle.bit_addressing_memory.specs.Memory.{read_by, piece}
use Rattle.bit_slice_views.specs.Found.{is_bit}
use Rattle.bit_slice_views.specs.View.{view_bits}
use Rattle.bit_slice_iterators.proofs.HeldLemmas.{held_more}
use Rattle.bit_slice_iterators.proofs.indices.Indices.look_ahead.Goals as goal

pub returns : goal.returns
returns g c =
    let reading = read_by g.T.BitRegister g.O.Positions.position in
    let bits = view_bits reading c.self.inside.view in
    let rest = view_bits reading c.part-self-inside.result in
    let count = c.min-count.result in
    let size : c.len-len.result ≡ length bits = c.len-len.ensures in
    let is_count : count ≡ min (length bits) 64 = c.min-count.ensures ∙ ap (λ n. min n 64) size in
    let left : rest ≡ piece bits count (length bits - count) =
    c.part-self-inside.ensures.bits ∙ ap (λ n. piece bits count (n - count)) size in
    held_more (is_bit g.B.Sought.bit) bits rest c.self.inside.base c.self.inside.ahead c.self.inside.from c.in-Some.ahead
    count (c.self.inside.from + count) (omega (arith, c.if-self-ne0.false)) is_count c.in-Some.ensures refl left
    ∙ c.self.view_is

use Rattle.std.proofs.Common.{ℕ, ◌≡◌, ◌+◌, List, ◌++◌, ◌∷◌, [], length, length-append, append_assoc}
use Rattle.std.proofs.Common.{rules, arith, refl, sym, ap, ◌∙◌}
use Rattle.bit_addressing_memory.specs.Memory.{read_by, piece}
use Rattle.bit_addressing_memory.proofs.MemoryLemmas.{piece_none}
use Rattle.bit_slice_views.specs.Found.{is_bit}
use Rattle.bit_slice_views.specs.View.{view_bits}
use Rattle.bit_slice_iterators.specs.Indices.{held, indices}
use Rattle.bit_slice_iterators.proofs.HeldLemmas.{held_last, held_last_of_all, held_nothing}
use Rattle.bit_slice_iterators.proofs.IndexLemmas.{indices-last, indices-none_last}
use Rattle.bit_slice_iterators.proofs.indices.IndicesDoubleEndedIterator.next_back.Goals as goal

pub returns-in-Some-clause-steps : goal.returns-in-Some-clause-steps
returns-in-Some-clause-steps g c =
    let s = c.self.inside in
    let test = is_bit g.B.Sought.bit in
    let bits = view_bits (read_by g.T.BitRegister g.O.Positions.position) s.view in
    let i = c.in-Some.i in
    let at : ℕ = s.from + i in
    let ahead : List ℕ = held s.base s.ahead in
    sym c.self.view_is
    ∙ ap (λ l. ahead ++ l) (indices-last test s.from i at bits (sym c.last.ensures ∙ c.in-Some.is) refl)
    ∙ sym (append_assoc ahead (indices test s.from (piece bits 0 i)) (at ∷ []))
    ∙ ap (λ xs. (ahead ++ indices test s.from xs) ++ at ∷ []) (sym c.part-self-inside.ensures.bits)

pub returns-in-Some-clause-goes : goal.returns-in-Some-clause-goes
returns-in-Some-clause-goes g c =
    let step = returns-in-Some-clause-steps g c in
    let size = ap length step ∙ length-append _ ((c.self.inside.from + c.in-Some.i) ∷ []) in
    search (rules, arith, size)

pub returns-then-self-eq0-clause-steps : goal.returns-then-self-eq0-clause-steps
returns-then-self-eq0-clause-steps g c =
    let s = c.self.inside in
    let test = is_bit g.B.Sought.bit in
    let bits = view_bits (read_by g.T.BitRegister g.O.Positions.position) s.view in
    let none : c.args.self.now ≡ [] =
    sym c.self.view_is
    ∙ held_nothing (indices test s.from bits) s.base s.ahead c.if-self-eq0.true
    (indices-none_last test s.from bits (sym c.last.ensures ∙ c.in_default.is)) in
    (none, none)

pub returns-clause-steps : goal.returns-clause-steps
returns-clause-steps g c =
    let s = c.self.inside in
    let test = is_bit g.B.Sought.bit in
    let reading = read_by g.T.BitRegister g.O.Positions.position in
    let bits = view_bits reading s.view in
    let kept = view_bits reading c.part-self-inside-2.result in
    held_last_of_all c.args.self.now (indices test s.from bits) (indices test s.from kept) s.base s.ahead _
    (s.base + c.ilog2-k.result) (sym c.self.view_is)
    (indices-none_last test s.from bits (sym c.last.ensures ∙ c.in_default.is))
    (ap (indices test s.from) (c.part-self-inside-2.ensures.bits ∙ piece_none bits 0 0 refl))
    (held_last s.base s.ahead c.ilog2-k.result c.ilog2-k.ensures.power_le c.ilog2-k.ensures.next_power_gt
    c.ilog2-k.ensures.bound)

pub returns-clause-goes : goal.returns-clause-goes
returns-clause-goes g c =
    let step = returns-clause-steps g c in
    let size = ap length step ∙ length-append _ ((c.self.inside.base + c.ilog2-k.result) ∷ []) in
    search (rules, arith, size)

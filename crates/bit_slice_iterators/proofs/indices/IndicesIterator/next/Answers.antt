use Rattle.std.proofs.Common.{◌≡◌, ◌+◌, ◌-◌, ◌<◌, ◌^◌, ℕ, [], ◌∷◌, ◌++◌, length, rules, arith, refl, sym, ap, ◌∙◌}
use Rattle.bit_addressing_memory.specs.Memory.{read_by}
use Rattle.bit_slice_views.specs.Found.{is_bit}
use Rattle.bit_slice_views.specs.View.{view_bits}
use Rattle.bit_slice_iterators.specs.Indices.{held, indices}
use Rattle.bit_slice_iterators.proofs.HeldLemmas.{held_first, held_none, held_nothing}
use Rattle.bit_slice_iterators.proofs.IndexLemmas.{indices-first, indices-none}
use Rattle.bit_slice_iterators.proofs.indices.IndicesIterator.next.Goals as goal

-- what is held comes first
pub returns-then-self-ne0-clause-steps : goal.returns-then-self-ne0-clause-steps
returns-then-self-ne0-clause-steps g c =
    let s = c.self.inside in
    let bits = view_bits (read_by g.T.BitRegister g.O.Positions.position) s.view in
    let some : 0 < s.ahead = omega (arith, c.if-self-ne0.true) in
    let fits : s.ahead < 2 ^ 64 = omega arith in
    sym c.make_ready.ensures
    ∙ sym c.self.view_is
    ∙ ap (λ l. l ++ indices (is_bit g.B.Sought.bit) s.from bits) (held_first s.base s.ahead some fits)

pub returns-then-self-ne0-clause-goes : goal.returns-then-self-ne0-clause-goes
returns-then-self-ne0-clause-goes g c =
    let step = returns-then-self-ne0-clause-steps g c in
    let size = ap length step in
    search (rules, arith, size)

-- none is held, and none is found
pub returns-in_default-clause-steps : goal.returns-in_default-clause-steps
returns-in_default-clause-steps g c =
    let s = c.self.inside in
    let test = is_bit g.B.Sought.bit in
    let bits = view_bits (read_by g.T.BitRegister g.O.Positions.position) s.view in
    let none : c.make_ready.new.self ≡ [] =
    sym c.self.view_is
    ∙ held_nothing (indices test s.from bits) s.base s.ahead c.if-self-ne0.false
    (indices-none test s.from bits (sym c.first.ensures ∙ c.in_default.is)) in
    (sym c.make_ready.ensures ∙ none, none)

-- none is held, and one is found
pub returns-clause-steps : goal.returns-clause-steps
returns-clause-steps g c =
    let s = c.self.inside in
    let test = is_bit g.B.Sought.bit in
    let reading = read_by g.T.BitRegister g.O.Positions.position in
    let bits = view_bits reading s.view in
    let i = c.in-Some.i in
    let at : ℕ = s.from + i in
    let rest = view_bits reading c.part-self-inside.result in
    let none : held s.base s.ahead ≡ [] = ap (held s.base) c.if-self-ne0.false ∙ held_none s.base in
    sym c.make_ready.ensures
    ∙ sym c.self.view_is
    ∙ ap (λ l. l ++ indices test s.from bits) none
    ∙ indices-first test s.from i at (at + 1) (i + 1) (length bits - (i + 1)) bits
    (sym c.first.ensures ∙ c.in-Some.is) refl refl refl refl
    ∙ ap (λ xs. at ∷ indices test (at + 1) xs) (sym (c.part-self-inside.ensures.bits ∙ rw c.len.ensures refl))
    ∙ sym (ap (λ l. at ∷ (l ++ indices test (at + 1) rest)) none)

pub returns-clause-goes : goal.returns-clause-goes
returns-clause-goes g c =
    let step = returns-clause-steps g c in
    let size = ap length step in
    search (rules, arith, size)

use Rattle.std.proofs.Common.{◌≡◌, refl, sym, ap, ◌∙◌, arith}
use Rattle.bit_addressing.specs.PointerRange.{PointerRange, bits_between}
use Rattle.bit_addressing.proofs.PointerLemmas.{without_first, gives_first, one_fewer_first}
use Rattle.bit_addressing.proofs.PointerRangeLemmas.{end_seen}
use Rattle.bit_addressing.specs.PointerRangeLaws.{end_is}
use Rattle.bit_addressing.proofs.pointer_range.BitPtrRangeIterator.next.Goals as goal

pub invariant_of-self : goal.invariant_of-self
invariant_of-self g c =
    let size = g.R.BitRegister.BITS in
    let inside = c.self.inside in
    let len : c.args.self.now.len ≡ bits_between size inside.start inside.end =
    sym (ap (λ (r : PointerRange). r.len) c.self.view_is) in
    without_first size inside.start inside.end c.add-self-inside.result c.self.invariant (omega arith)
    c.add-self-inside.ensures.place c.add-self-inside.ensures.bit

pub returns-clause-steps : goal.returns-clause-steps
returns-clause-steps g c =
    gives_first g.R.BitRegister.BITS c.args.self.now c.self.inside.start c.self.inside.end c.add-self-inside.result
    c.self.inside.start c.self.invariant c.self.view_is (omega arith) refl
    c.add-self-inside.ensures.place

pub returns-clause-end : goal.returns-clause-end
returns-clause-end g c =
    let size = g.R.BitRegister.BITS in
    let inside = c.self.inside in
    let next = c.add-self-inside in
    let len : c.args.self.now.len ≡ bits_between size inside.start inside.end =
    sym (ap (λ (r : PointerRange). r.len) c.self.view_is) in
    let left = without_first size inside.start inside.end next.result c.self.invariant (omega arith) next.ensures.place
    next.ensures.bit in
    end_is size next.result inside.end left.end_bit left.order
    ∙ end_seen size inside.start inside.end c.args.self.now c.self.invariant c.self.view_is

pub returns-clause-left : goal.returns-clause-left
returns-clause-left g c =
    let size = g.R.BitRegister.BITS in
    let inside = c.self.inside in
    let len : c.args.self.now.len ≡ bits_between size inside.start inside.end =
    sym (ap (λ (r : PointerRange). r.len) c.self.view_is) in
    one_fewer_first size inside.start inside.end c.add-self-inside.result c.self.invariant (omega arith)
    c.add-self-inside.ensures.place
    ∙ sym len

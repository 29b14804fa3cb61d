use Rattle.std.proofs.Common.{◌≡◌, sym, ap, ◌∙◌, arith}
use Rattle.bit_addressing.specs.PointerRange.{PointerRange, bits_between}
use Rattle.bit_addressing.proofs.PointerLemmas.{one_fewer_last}
use Rattle.bit_addressing.proofs.pointer_range.BitPtrRangeDoubleEndedIterator.next_back.Goals as goal

pub returns-clause-left : goal.returns-clause-left
returns-clause-left g c =
    let size = g.R.BitRegister.BITS in
    let inside = c.self.inside in
    let len : c.args.self.now.len ≡ bits_between size inside.start inside.end =
    sym (ap (λ (r : PointerRange). r.len) c.self.view_is) in
    one_fewer_last size inside.start inside.end c.sub-self-inside.result c.self.invariant (omega arith)
    c.sub-self-inside.ensures.place
    ∙ sym len

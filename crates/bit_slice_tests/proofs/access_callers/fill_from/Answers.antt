use Rattle.std.proofs.Common.{rules, ◌≡◌, ◌-◌, true, length, replicate, arith, ap, ◌∙◌}
use Rattle.bit_addressing_memory.specs.Memory.{with_piece}
use Rattle.bit_slice_access.proofs.CallerLemmas.{part_kept}
use Rattle.bit_slice_tests.proofs.access_callers.fill_from.Goals as goal

pub returns : goal.returns
returns g c =
    let v = c.args.view.now in
    let q = c.fill.new.self in
    let is = c.in-Some.ensures.shows in
    let kept = part_kept is q c.fill.ensures.frame (omega (arith, is.len)) (g.met.V.BitsMut.window q.of.now)
    (omega arith) c.in-Some.part.fits in
    let loan = kept.0 in
    let now : g.V.Bits.bits q.of.now ≡ replicate (length (g.V.Bits.bits v) - c.args.from) true =
    c.fill.ensures.bits ∙ ap (λ n. replicate n true) is.len in
    let bits : g.V.Bits.bits c.drop-part.new.self.0
    ≡ with_piece (g.V.Bits.bits v) c.args.from (replicate (length (g.V.Bits.bits v) - c.args.from) true) =
    c.drop-part.ensures.bits ∙ kept.1 ∙ ap (with_piece (g.V.Bits.bits v) c.args.from) now in
    let frame : g.V.BitsMut.frame c.drop-part.new.self.0 ≡ g.V.BitsMut.frame v = c.drop-part.ensures.frame ∙ kept.2 in
    record { bits = search (rules, bits, loan); frame = search (rules, frame, loan) }

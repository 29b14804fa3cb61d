use Rattle.std.proofs.Common.{rules, ◌≡◌, ◌+◌, ◌%◌, ℕ, false, length, ap, ◌∙◌}
use Rattle.bit_addressing_memory.specs.Memory.{with_piece}
use Rattle.bit_slice_access.proofs.CallerLemmas.{part_kept}
use Rattle.bit_slice_fields.specs.Number.{field_bits}
use Rattle.bit_slice_tests.proofs.parts.put_in_part.Goals as goal

pub returns : goal.returns
returns g c =
    let v = c.args.view.now in
    let b : ℕ = g.V.Store.BitRegister.BITS in
    let low = g.V.BitField.low_first in
    let z = g.M.Integral.whole c.args.value in
    let p = c.new-part.result in
    let q = c.store_be.new.self in
    let shows = c.new-part.ensures.shows in
    let size : length (g.V.Bits.bits q.of.now) ≡ c.args.len = c.store_be.ensures.len ∙ shows.len in
    let kept = part_kept shows q c.store_be.ensures.frame size (g.met.V.BitsMut.window q.of.now) c.requires.fits p.fits in
    let loan = kept.0 in
    let head : p.head ≡ g.V.BitsMut.place v =
    ap (λ f. f.place) shows.around ∙ ap (λ f. f.place) (g.met.V.BitsMut.framed v) in
    let at : g.V.BitsMut.place p.of.now % b ≡ (g.V.BitsMut.place v + c.args.from) % b =
    ap (λ k. k % b) (shows.place_is ∙ ap (λ k. k + c.args.from) head) in
    let now : g.V.Bits.bits q.of.now ≡ field_bits low false b ((g.V.BitsMut.place v + c.args.from) % b) c.args.len z =
    c.store_be.ensures.bits
    ∙ ap (λ n. field_bits low false b (g.V.BitsMut.place p.of.now % b) n z) shows.len
    ∙ ap (λ h. field_bits low false b h c.args.len z) at in
    let bits : g.V.Bits.bits c.drop-part.new.self.0
    ≡ with_piece (g.V.Bits.bits v) c.args.from
    (field_bits low false b ((g.V.BitsMut.place v + c.args.from) % b) c.args.len z) =
    c.drop-part.ensures.bits ∙ kept.1 ∙ ap (with_piece (g.V.Bits.bits v) c.args.from) now in
    let frame : g.V.BitsMut.frame c.drop-part.new.self.0 ≡ g.V.BitsMut.frame v = c.drop-part.ensures.frame ∙ kept.2 in
    record { bits = search (rules, bits, loan); frame = search (rules, frame, loan) }

use Rattle.std.proofs.Common.{length, arith, sym, ◌∙◌}
use Rattle.bit_addressing_memory.specs.Memory.{read_by}
use Rattle.bit_slice_views_mut.proofs.FrameLemmas.{frame_kept}
use Rattle.bit_slice_views_mut.proofs.bits_mut.BitsMut.write.Goals as goal

pub with_words-requires-clause-keeps : goal.with_words-requires-clause-keeps
with_words-requires-clause-keeps g c w r a ran = (c.requires.beside w r a ran).words

pub returns-clause-frame : goal.returns-clause-frame
returns-clause-frame g c =
    let v = c.args.self.now in
    let u = c.with_words.new.self in
    let kept = frame_kept (read_by g.Self.Store.BitRegister g.Self.Order.Positions.position) (g.Self.BitsMut.lender v)
    (g.Self.BitsMut.words v) (g.Self.BitsMut.words u) (g.Self.BitsMut.place v) (length (g.Self.Bits.bits v))
    (omega (arith, g.met.Self.Store.BitRegister.least_bits))
    (c.requires.beside _ _ _ c.with_words.ensures.words) in
    g.met.Self.BitsMut.framed u
    ∙ rw (c.with_words.ensures.lender, c.with_words.ensures.place, c.with_words.ensures.len) kept
    ∙ sym (g.met.Self.BitsMut.framed v)

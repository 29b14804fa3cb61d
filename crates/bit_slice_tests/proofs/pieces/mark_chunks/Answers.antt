use Rattle.std.proofs.Common.{◌≡◌, ◌+◌, ◌-◌, ◌*◌, ◌<◌, length, set, true, min, arith, rules, refl, ap, ◌∙◌}
use Rattle.bit_addressing_memory.specs.Memory.{read_by, memory, piece, with_piece}
use Rattle.bit_slice_iterators.proofs.CutLemmas.{ceil_within}
use Rattle.bit_slice_iterators.proofs.CallerLemmas.{lent_written}
use Rattle.bit_slice_views_mut.specs.Parts.{IsPart, Windows}
use Rattle.bit_slice_tests.specs.Marked.{marked}
use Rattle.bit_slice_tests.proofs.MarkedLemmas.{length-marked, marked_next}
use Rattle.bit_slice_tests.proofs.pieces.mark_chunks.Goals as goal

pub loop-piece-preserved : goal.loop-piece-preserved
loop-piece-preserved g c =
    let of : Windows _ _ _ = record {
      reading = read_by g.V.Store.BitRegister g.V.Order.Positions.position;
      some = omega (arith, g.met.V.Store.BitRegister.least_bits);
      bits = g.V.Bits.bits;
      lender = g.V.BitsMut.lender;
      words = g.V.BitsMut.words;
      place = g.V.BitsMut.place;
      frame = g.V.BitsMut.frame;
      window = g.met.V.BitsMut.window;
      fits = g.met.V.BitsMut.fits;
      framed = g.met.V.BitsMut.framed;
    } in
    let p = c.loop-piece.pieces in
    let k = c.args.size in
    let bits = g.V.Bits.bits c.args.view.now in
    let start = p.front * p.by in
    let n = min p.by (p.len - start) in
    let last = c.set.new.self in
    let lent = c.in-Some.piece.now in
    let more : p.front < p.back = c.in-Some.ensures.variant.0 refl in
    let below : start < p.len = omega (arith, ceil_within p.len p.by p.front (omega arith) (search rules)) in
    let part : IsPart of p.of.now (p.head + start) n lent = record {
      words = c.in-Some.ensures.words;
      lender = c.in-Some.ensures.lender;
      place = c.in-Some.ensures.place;
      len = c.in-Some.ensures.len;
    } in
    let done = lent_written of p.of.now lent last p.head p.len start n part c.set.ensures.frame (omega arith) (omega arith)
    c.loop-piece.invariant.fits in
    let whole = piece (memory of.reading (of.words p.of.now)) p.head p.len in
    let wrote : of.bits last ≡ set (piece whole start n) 0 true =
    c.set.ensures.bits ∙ ap (λ xs. set xs 0 true) c.in-Some.ensures.bits in
    record {
      loan = search rules;
      size = search rules;
      len = search rules;
      order = omega arith;
      back = search rules;
      fits = search rules;
      short = search rules;
      small = search rules;
      whole = done.0 ∙ ap (with_piece whole start) wrote
          ∙ marked_next bits whole k p.front start n c.loop-piece.invariant.whole (search rules) (omega arith)
          (omega arith);
      around = done.1 ∙ c.loop-piece.invariant.around;
    }

pub returns-clause-len : goal.returns-clause-len
returns-clause-len g c =
    let bits = g.V.Bits.bits c.args.view.now in
    let same : g.V.Bits.bits c.drop-pieces.new.self.0 ≡ marked bits c.args.size c.loop-piece.pieces.front =
    c.drop-pieces.ensures.bits ∙ c.loop-piece.invariant.whole in
    let size : length (g.V.Bits.bits c.drop-pieces.new.self.0) ≡ length bits =
    ap length same ∙ length-marked bits c.args.size c.loop-piece.pieces.front in
    search (rules, size)

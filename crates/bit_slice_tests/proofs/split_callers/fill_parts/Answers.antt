use Rattle.std.proofs.Common.{◌≡◌, ℕ, ◌<◌, length, true, false, get_or}
use Rattle.std.proofs.Common.{replicate, rules, refl, arith, ap, sym, ◌∙◌}
use Rattle.bit_addressing_memory.specs.Memory.{read_by, memory, piece, with_piece}
use Rattle.bit_addressing_memory.proofs.MemoryLemmas.{length-memory, length-piece}
use Rattle.bit_slice_splits.specs.Ways.{from_front}
use Rattle.bit_slice_splits.proofs.CallerLemmas.{one_there}
use Rattle.bit_slice_splits.proofs.LentCallerLemmas.{next_lies, next_written}
use Rattle.bit_slice_splits.proofs.SeekLemmas.{length-left}
use Rattle.bit_slice_views_mut.specs.Parts.{Windows}
use Rattle.bit_slice_tests.proofs.FilledLemmas.{ends_there, fewer_left, filled_all, filled_more, none_left}
use Rattle.bit_slice_tests.proofs.split_callers.fill_parts.Goals as goal

pub loop-part-smaller : goal.loop-part-smaller
loop-part-smaller g c =
    let reading = read_by g.V.Store.BitRegister g.V.Order.Positions.position in
    let p = c.loop-part.parts in
    let q = c.next_mut.follows.lender c.fill.new.self in
    let held = rw c.in-Some.is at c.next_mut.follows.holds c.fill.new.self in
    let took = held.1 in
    let size = length-left reading (g.V.BitsMut.words p.of.now) p.head p.len p.from p.count
    c.loop-part.invariant.lies.left c.loop-part.invariant.lies.fits in
    fewer_left p.done q.done p.count _ took.parts.asked q.count took.parts.going took.parts.done_is size
    took.parts.within took.count_is

pub loop-part-preserved : goal.loop-part-preserved
loop-part-preserved g c =
    let of : Windows _ _ _ = record {
      reading = read_by g.V.Store.BitRegister g.V.Order.Positions.position;
      some = omega (arith, g.met.V.Store.BitRegister.least_bits);
      bits = g.V.Bits.bits;
      lender = g.V.BitsMut.lender;
      words = g.V.BitsMut.words;
      place = g.V.BitsMut.place;
      frame = g.V.BitsMut.frame;
      window = g.met.V.BitsMut.window;
      fits = g.met.V.BitsMut.fits;
      framed = g.met.V.BitsMut.framed;
    } in
    let p = c.loop-part.parts in
    let last = c.fill.new.self in
    let q = c.next_mut.follows.lender last in
    let lent = c.in-Some.part.now in
    let held = rw c.in-Some.is at c.next_mut.follows.holds last in
    let has = held.0 in
    let took = held.1 in
    let m = took.parts.asked in
    let lies = c.loop-part.invariant.lies in
    let whole = piece (memory of.reading (of.words p.of.now)) p.head p.len in
    let left = piece whole p.from p.count in
    let size : length left ≡ p.count =
    length-left of.reading (of.words p.of.now) p.head p.len p.from p.count lies.left lies.fits in
    let all : length whole ≡ p.len =
    length-piece (memory of.reading (of.words p.of.now)) p.head p.len
    (omega (arith, length-memory of.reading (of.words p.of.now), lies.fits)) in
    let written = next_written of g.F.FnMut p q lent last lies has c.in-Some.ensures.words c.in-Some.ensures.lender
    c.fill.ensures.frame c.fill.ensures.len in
    let start : q.start ≡ p.from = omega (arith, took.start_is) in
    let many : length (of.bits lent) ≡ m = has.lent_len ∙ took.size_is in
    let wrote : of.bits last ≡ replicate m true = c.fill.ensures.bits ∙ ap (λ n. replicate n true) many in
    let is : piece (memory of.reading (of.words q.of.now)) q.head q.len ≡ with_piece whole p.from (replicate m true) =
    written.0 ∙ ap (λ i. with_piece whole i (of.bits last)) start ∙ ap (λ xs. with_piece whole p.from xs) wrote in
    let cut : m < p.count → get_or left m false ≡ true = λ low.
    one_there from_front g.F.FnMut left p.f m q.f c.requires.answers took.parts.asks (omega (arith, size)) in
    record {
      callable = has.callable;
      loan = has.loan ∙ c.loop-part.invariant.loan;
      len = has.len_is ∙ c.loop-part.invariant.len;
      lies = next_lies of g.F.FnMut p q lent last lies has c.in-Some.ensures.words c.in-Some.ensures.lender
          c.fill.ensures.frame c.fill.ensures.len;
      ends = ends_there p.count (length left) m p.from q.from q.count q.len size took.parts.within took.from_is
          took.count_is (c.loop-part.invariant.ends ∙ sym has.len_is);
      ended = none_left q.done p.count (length left) m q.count took.parts.done_is size took.count_is;
      filled = rw is (
          filled_more whole left p.from p.count m q.from (omega (arith, all, lies.left)) refl
          (omega (arith, took.parts.within, size)) took.from_is cut c.loop-part.invariant.filled);
      around = written.1 ∙ c.loop-part.invariant.around;
    }

pub returns-clause-bits : goal.returns-clause-bits
returns-clause-bits g c =
    let reading = read_by g.V.Store.BitRegister g.V.Order.Positions.position in
    let words = g.V.BitsMut.words in
    let p = c.loop-part.parts in
    let n : ℕ = length (g.V.Bits.bits c.args.view.now) in
    let held = rw c.in_default.is at c.next_mut.follows.holds-at-none in
    let kept = held.0 in
    let lies = c.loop-part.invariant.lies in
    let whole = piece (memory reading (words p.of.now)) p.head p.len in
    let all : length whole ≡ p.len =
    length-piece (memory reading (words p.of.now)) p.head p.len
    (omega (arith, length-memory reading (words p.of.now), lies.fits)) in
    let none : p.count ≡ 0 = c.loop-part.invariant.ended held.1.0 in
    let end : p.from ≡ n = omega (arith, none, c.loop-part.invariant.ends, c.loop-part.invariant.len) in
    let filled : whole ≡ replicate n true =
    filled_all whole p.from n (all ∙ c.loop-part.invariant.len) end c.loop-part.invariant.filled in
    let same : g.V.Bits.bits c.drop-parts.new.self.0 ≡ replicate n true =
    c.drop-parts.ensures.bits ∙ rw (kept.words_are, kept.place_is, kept.len_is) filled in
    search (rules, same)

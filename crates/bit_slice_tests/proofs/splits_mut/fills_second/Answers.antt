use Rattle.std.proofs.Common.{arith}
use Rattle.bit_addressing_memory.specs.Memory.{read_by}
use Rattle.bit_slice_splits.proofs.LentCallerLemmas.{next_lies}
use Rattle.bit_slice_views_mut.specs.Parts.{Windows}
use Rattle.bit_slice_tests.proofs.splits_mut.fills_second.Goals as goal

pub returns : goal.returns
returns g c =
    let of : Windows _ _ _ = record {
      reading = read_by g.V.Store.BitRegister g.V.Order.Positions.position;
      some = omega (arith, g.met.V.Store.BitRegister.least_bits);
      bits = g.V.Bits.bits;
      lender = g.V.BitsMut.lender;
      words = g.V.BitsMut.words;
      place = g.V.BitsMut.place;
      frame = g.V.BitsMut.frame;
      window = g.met.V.BitsMut.window;
      fits = g.met.V.BitsMut.fits;
      framed = g.met.V.BitsMut.framed;
    } in
    let last = c.fill.new.self in
    let held = rw c.in-Some.is at c.nth_mut.follows.holds last in
    record {
      lies_still = next_lies of g.F.FnMut c.args.parts.now (c.nth_mut.follows.lender last) c.in-Some.part.now last c.requires.lies held.0
          c.in-Some.ensures.words c.in-Some.ensures.lender c.fill.ensures.frame c.fill.ensures.len;
    }

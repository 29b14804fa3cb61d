use Rattle.std.proofs.Common.{◌≡◌, length, sym, ap, ◌∙◌}
use Rattle.bit_addressing_memory.specs.Memory.{memory, piece, read_by}
use Rattle.bit_slice_iterators.proofs.PartLemmas.{part_bits}
use Rattle.bit_slice_splits.proofs.splits_mut.parted.Goals as goal

pub returns-clause-parts : goal.returns-clause-parts
returns-clause-parts g c =
    let reading = read_by g.V.Store.BitRegister g.V.Order.Positions.position in
    let way = g.W.SplitEnd.way in
    let u = c.show.new.self in
    let left = piece (piece (memory reading (g.V.BitsMut.words c.args.of.now)) c.args.head c.args.len) c.args.from
    c.args.count in
    let same : g.V.Bits.bits u ≡ left =
    part_bits reading (g.V.BitsMut.words c.args.of.now) (g.V.BitsMut.words u) (g.V.BitsMut.place u)
    (length (g.V.Bits.bits u)) c.args.head c.args.len c.args.from c.args.count (g.V.Bits.bits u)
    (g.met.V.BitsMut.window u) c.show.ensures.words c.show.ensures.place c.show.ensures.len c.requires.inside in
    let size : length left ≡ c.args.count = ap length (sym same) ∙ c.show.ensures.len in
    record {
      asked = c.asked_in-asked.result;
      within = rw (← same) c.asked_in-asked.ensures.within;
      asks = rw (← same) c.asked_in-asked.ensures.asks;
      start_is = rw size c.part.ensures.start;
      size_is = rw size c.part.ensures.size;
      rest_is = rw size c.part.ensures.rest;
      rest_size_is = rw size c.part.ensures.rest_size;
      last_is = rw size c.part.ensures.last;
    }

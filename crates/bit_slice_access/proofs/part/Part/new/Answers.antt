use Rattle.std.proofs.Common.{◌≡◌, length, arith, rules}
use Rattle.bit_addressing_memory.specs.Memory.{read_by, piece}
use Rattle.bit_slice_access.proofs.PartLemmas.{part_shown}
use Rattle.bit_slice_access.proofs.part.Part.new.Goals as goal

pub returns-clause-shows : goal.returns-clause-shows
returns-clause-shows g c =
    let v = c.args.of.now in
    let w = c.show.new.self in
    let bits : g.V.Bits.bits w ≡ piece (g.V.Bits.bits v) c.args.from c.args.count =
    part_shown (read_by g.V.Store.BitRegister g.V.Order.Positions.position) (g.V.BitsMut.words v)
    (g.V.BitsMut.words w) (g.V.BitsMut.place v) (g.V.BitsMut.place w) (length (g.V.Bits.bits v)) c.args.count
    c.args.from _ _ (g.met.V.BitsMut.window v) (rw c.show.ensures.len at (g.met.V.BitsMut.window w))
    c.show.ensures.words (omega (arith, c.show.ensures.place, c.first_place-head.ensures.value)) c.requires in
    record {
      bits_are = search (rules, bits);
      len = search rules;
      place_is = search rules;
      whole_len = search rules;
      whole = search rules;
      around = search rules;
    }

use Rattle.std.proofs.Common.{◌≡◌, length, sym, ap, ◌∙◌, rules}
use Rattle.bit_addressing_memory.specs.Memory.{memory, piece, read_by}
use Rattle.bit_addressing_memory.proofs.MemoryLemmas.{piece_all}
use Rattle.bit_slice_splits.proofs.splits_mut.SplitsMut.new.Goals as goal

pub returns-clause-parts : goal.returns-clause-parts
returns-clause-parts g c =
    let reading = read_by g.V.Store.BitRegister g.V.Order.Positions.position in
    let v = c.args.of.now in
    let whole : piece (memory reading (g.V.BitsMut.words v)) c.first_place-head.result c.len-len.result
    ≡ g.V.Bits.bits v =
    rw (c.first_place-head.ensures.value, c.len-len.ensures) (sym (g.met.V.BitsMut.window v)) in
    let left = piece_all (piece (memory reading (g.V.BitsMut.words v)) c.first_place-head.result c.len-len.result)
    c.len-len.result (ap length whole ∙ sym c.len-len.ensures) ∙ whole in
    record {
      value = search rules;
      place_is = search rules;
      len = search rules;
      whole = whole;
      around = search rules;
      from_is = search rules;
      count_is = search rules;
      left = left;
      callee_is = search rules;
      lies = search rules;
    }

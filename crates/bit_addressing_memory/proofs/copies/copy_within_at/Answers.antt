use Rattle.bit_addressing_memory.proofs.Common.{◌<◌, ap, ◌∙◌, arith, entry, read_by}
use Rattle.bit_addressing_memory.proofs.CopyLemmas.{copies_more, copies_more_down, not_yet_up, not_yet_down}
use Rattle.bit_addressing_memory.specs.Place.{place_of}
use Rattle.bit_addressing_memory.proofs.copies.copy_within_at.Goals as goal

pub down-preserved : goal.down-preserved
down-preserved g c =
    let size = g.R.BitRegister.BITS in
    let reading = read_by g.R.BitRegister g.O.Positions.position in
    let from = place_of size c.args.source in
    let to = place_of size c.args.target in
    let k = c.down.k in
    let some : 0 < k = omega arith in
    let still = not_yet_down reading c.args.words.now c.down.words from to c.args.len k some
    (c.requires.down c.if-upward.false) c.down.invariant in
    let bit = c.read_at-bit-in-down.ensures.value ∙ ap (entry reading c.down.words) c.after-in-down.ensures
    ∙ still in
    copies_more_down reading c.args.words.now c.down.words c.write_at-in-down.new.words from to c.args.len k _ _
    some (omega arith) c.after-in-down-2.ensures bit c.down.invariant c.write_at-in-down.ensures.written

pub up-preserved : goal.up-preserved
up-preserved g c =
    let reading = read_by g.R.BitRegister g.O.Positions.position in
    let from = place_of reading.bits c.args.source in
    let to = place_of reading.bits c.args.target in
    let k = c.up.k in
    let still = not_yet_up reading c.args.words.now c.up.words from to k (c.requires.up c.if-upward.true)
    c.up.invariant in
    let bit = c.read_at-bit.ensures.value ∙ ap (entry reading c.up.words) c.after.ensures ∙ still in
    copies_more reading c.args.words.now c.up.words c.write_at.new.words reading c.args.words.now from to k _ _
    c.after-in-up.ensures bit c.up.invariant c.write_at.ensures.written

use Rattle.bit_addressing_memory.proofs.Common.{ap, ◌∙◌, entry, read_by}
use Rattle.bit_addressing_memory.proofs.CopyLemmas.{copies_more}
use Rattle.bit_addressing_memory.specs.Place.{place_of}
use Rattle.bit_addressing_memory.proofs.copies.copy_between_at.Goals as goal

pub loop-k-preserved : goal.loop-k-preserved
loop-k-preserved g c =
    let reading = read_by g.R.BitRegister g.O.Positions.position in
    let its = read_by g.Q.BitRegister g.P.Positions.position in
    let from = place_of its.bits c.args.source in
    let to = place_of reading.bits c.args.target in
    let bit = c.read_at-bit.ensures.value ∙ ap (entry its c.args.from.now) c.after.ensures in
    copies_more reading c.args.words.now c.loop-k.words c.write_at.new.words its c.args.from.now from to c.loop-k.k _ _
    c.after-in-loop-k.ensures bit c.loop-k.invariant c.write_at.ensures.written

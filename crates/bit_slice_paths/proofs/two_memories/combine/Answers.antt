use Rattle.bit_addressing_memory.proofs.Common.{◌≡◌, ◌+◌, ◌-◌, ◌*◌, ◌/◌, ap, arith, read_by}
use Rattle.bit_slice_chunks.specs.Combined.{combined_bit}
use Rattle.bit_slice_paths.proofs.FitLemmas.{fit_on}
use Rattle.bit_slice_paths.proofs.WalkLemmas.{combines_more}
use Rattle.bit_slice_paths.proofs.two_memories.combine.Goals as goal

pub merge_middle-requires-clause-fit : goal.merge_middle-requires-clause-fit
merge_middle-requires-clause-fit g c =
    fit_on g.R.BitRegister.BITS g.O.Positions.position g.Q.BitRegister.BITS g.P.Positions.position c.args.place
    c.args.other_place c.bits_to_next_word-head.result c.args.fit c.requires.fit

pub merge_edge-requires-2-clause-fit : goal.merge_edge-requires-2-clause-fit
merge_edge-requires-2-clause-fit g c =
    fit_on g.R.BitRegister.BITS g.O.Positions.position g.Q.BitRegister.BITS g.P.Positions.position c.args.place
    c.args.other_place _ c.args.fit c.requires.fit

-- the bits before the next word, whole words, and the rest
pub returns-clause-combined : goal.returns-clause-combined
returns-clause-combined g c =
    let reading = read_by g.R.BitRegister g.O.Positions.position in
    let its = read_by g.Q.BitRegister g.P.Positions.position in
    let how = combined_bit g.H.Combining.HOW in
    let words = c.args.words.now in
    let others = c.args.others.now in
    let head = c.bits_to_next_word-head.result in
    let n = (c.args.len - head) / c.bits_of-bits.result in
    let row : n * c.bits_of-bits.result ≡ n * reading.bits = ap (λ b. n * b) c.bits_of-bits.ensures in
    let done = head + n * c.bits_of-bits.result in
    let front = combines_more reading its words c.merge_edge.new.words c.merge_middle.new.words others c.args.place
    c.args.other_place head (n * reading.bits) done how (omega (arith, row)) c.merge_edge.ensures c.merge_middle.ensures in
    combines_more reading its words c.merge_middle.new.words c.merge_edge-2.new.words others c.args.place
    c.args.other_place done (c.args.len - done) c.args.len how (omega arith) front c.merge_edge-2.ensures

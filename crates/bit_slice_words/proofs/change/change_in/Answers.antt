use Rattle.bit_addressing_memory.proofs.Common.{arith, read_by}
use Rattle.bit_addressing_memory.proofs.PlaceLemmas.{touched_words}
use Rattle.bit_slice_paths.specs.Combined.{combined_bit}
use Rattle.bit_slice_words.proofs.ChangeLemmas.{changes_cut}
use Rattle.bit_slice_words.proofs.change.change_in.Goals as goal

pub returns-then-cut-clause-writes : goal.returns-then-cut-clause-writes
returns-then-cut-clause-writes g c =
    let cut = c.edges_of-cut.result in
    let is = c.edges_of-cut.ensures in
    let count = touched_words g.R.BitRegister.BITS c.args.place c.args.len cut.first cut.from cut.last cut.upto is.start
    is.end is.index is.some is.within (omega arith) in
    omega (arith, count)

-- the first word's part, the whole words and the last word's part, one behind another
pub returns-clause-changed : goal.returns-clause-changed
returns-clause-changed g c =
    let cut = c.edges_of-cut.result in
    let is = c.edges_of-cut.ensures in
    changes_cut (read_by g.R.BitRegister g.O.Positions.position) c.args.words.now c.change_part-2.new.words
    c.change_whole-whole.new.words c.change_part-3.new.words c.args.place c.args.len cut.first cut.from cut.last cut.upto
    c.BITS.result (λ b. combined_bit g.H.Combining.HOW b c.args.bit) is.start is.end (omega arith) (omega arith) is.within c.BITS.ensures
    c.change_part-2.ensures c.change_whole-whole.ensures.changed c.change_part-3.ensures

pub returns-clause-writes : goal.returns-clause-writes
returns-clause-writes g c =
    let cut = c.edges_of-cut.result in
    let is = c.edges_of-cut.ensures in
    let count = touched_words g.R.BitRegister.BITS c.args.place c.args.len cut.first cut.from cut.last cut.upto is.start
    is.end is.index is.some is.within (omega arith) in
    omega (arith, count, c.change_whole-whole.ensures.writes, is.order)

use Rattle.bit_addressing_memory.proofs.Common.{◌<◌, length, arith, read_by}
use Rattle.bit_slice_words.proofs.CountLemmas.{trues_one, trues_cut, trues_fit}
use Rattle.bit_slice_words.proofs.count.count_ones_in.Goals as goal

pub returns-then-cut : goal.returns-then-cut
returns-then-cut g c =
    let reading = read_by g.R.BitRegister g.O.Positions.position in
    let cut = c.edges_of-cut.ensures in
    let at = c.edges_of-cut.result in
    let low : at.last < length c.args.words.now = cut.fits _ c.requires.lies.within in
    trues_one reading c.args.words.now c.args.place c.args.len at.first at.from at.last at.upto
    c.index-words-cut.result c.ones_of_part.result cut.start cut.end c.if-cut.true cut.within (omega arith)
    (omega arith) c.index-words-cut.is c.ones_of_part.ensures

-- the first word's part, the words between, the last word's part
pub returns : goal.returns
returns g c =
    let reading = read_by g.R.BitRegister g.O.Positions.position in
    let cut = c.edges_of-cut.ensures in
    let at = c.edges_of-cut.result in
    trues_cut reading c.args.words.now c.between.result.now c.args.place c.args.len at.first at.from at.last at.upto
    c.BITS.result c.index-words-cut-2.result c.index-words-cut-3.result
    c.ones_of_part-head.result c.ones_of_words-body.result c.ones_of_part-tail.result
    cut.start cut.end (omega arith) (omega arith) cut.within (cut.fits _ c.requires.lies.within)
    c.index-words-cut-2.is c.index-words-cut-3.is c.between.ensures c.BITS.ensures
    c.ones_of_part-head.ensures c.ones_of_words-body.ensures c.ones_of_part-tail.ensures

pub overflow_add-result : goal.overflow_add-result
overflow_add-result g c =
    let reading = read_by g.R.BitRegister g.O.Positions.position in
    let fits = trues_fit reading c.args.words.now c.args.place c.args.len _ c.requires.lies.within (returns g c) in
    omega arith

pub overflow_add-result-2 : goal.overflow_add-result-2
overflow_add-result-2 g c =
    let reading = read_by g.R.BitRegister g.O.Positions.position in
    let fits = trues_fit reading c.args.words.now c.args.place c.args.len _ c.requires.lies.within (returns g c) in
    omega arith

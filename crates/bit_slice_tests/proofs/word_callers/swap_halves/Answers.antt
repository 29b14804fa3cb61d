use Rattle.std.proofs.Common.{◌<◌, ◌++◌, take, drop, ap, ◌∙◌, arith, rules}
use Rattle.bit_addressing_memory.specs.Memory.{memory, read_by}
use Rattle.bit_slice_tests.proofs.HalfLemmas.{border_of, halves_swapped}
use Rattle.bit_slice_tests.proofs.word_callers.swap_halves.Goals as goal

pub split_words_mut-requires-clause-border : goal.split_words_mut-requires-clause-border
split_words_mut-requires-clause-border g c =
    let some : 0 < g.T.BitRegister.BITS = omega (arith, g.met.T.BitRegister.least_bits) in
    (border_of g.T.BitRegister.BITS c.BITS.result c.from_slice_mut-view.result.head c.args.half some c.BITS.ensures
    c.from_slice_mut-view.ensures.place).0

pub returns : goal.returns
returns g c =
    let some : 0 < g.T.BitRegister.BITS = omega (arith, g.met.T.BitRegister.least_bits) in
    let border = border_of g.T.BitRegister.BITS c.BITS.result c.from_slice_mut-view.result.head c.args.half some
    c.BITS.ensures c.from_slice_mut-view.ensures.place in
    let r = c.split_words_mut.ensures.words in
    let reading = read_by g.T.BitRegister g.O.Positions.position in
    let half = c.args.half in
    let after = halves_swapped reading c.from_slice_mut-view.result.words.now _ _ half r.0 r.1 border.1 r.2
    (search rules) (search rules) r.4 in
    let all = after ∙ ap (λ ws. memory reading (drop half ws) ++ memory reading (take half ws))
    c.from_slice_mut-view.ensures.words in
    search (rules, all)

use Rattle.std.proofs.Common.{◌≡◌, ◌+◌, ◌-◌, ◌<◌, ◌∷◌, [], take, drop, ap, ◌∙◌, arith}
use Rattle.bit_addressing_memory.specs.Memory.{read_by}
use Rattle.bit_addressing_span.proofs.CutLemmas.{part_bits}
use Rattle.bit_addressing_span.proofs.MaskedLemmas.{one_word, part_reads}
use Rattle.bit_addressing_span.proofs.cut.part_of.Goals as goal

pub returns-clause-bits : goal.returns-clause-bits
returns-clause-bits g c =
    let reading = read_by g.R.BitRegister g.O.Positions.position in
    let is = c.new.ensures in
    rw (is.words, is.head, is.tail)
    (part_bits reading c.args.words.now c.args.word _ c.args.head c.args.tail (omega arith)
    c.requires.inside c.requires.ordered (omega (arith, is.tail, c.new.result.within)))

pub returns-clause-masked : goal.returns-clause-masked
returns-clause-masked g c =
    let words = c.args.words.now in
    let at = c.args.word in
    let is = c.new.ensures in
    let found = one_word words at c.requires.inside in
    let count : at + 1 - at ≡ 1 = omega arith in
    let single : take (at + 1 - at) (drop at words) ≡ found.0 ∷ [] = ap (λ n. take n (drop at words)) count ∙ found.1 in
    let index : c.args.head < g.R.BitRegister.BITS = omega (arith, is.head, c.new.result.index) in
    rw (is.words, is.head, is.tail, single)
    (part_reads g.R.BitRegister.BITS g.R.BitRegister.number g.O.Positions.position _ g.O.OrderCandidate.masked words at
    found.0 c.args.head c.args.tail g.met.O.BitOrder.lawful index c.requires.ordered
    (omega (arith, is.tail, c.new.result.within)) c.requires.inside found.2)

use Rattle.std.proofs.Common.{◌≡◌, ◌+◌, ◌*◌, ◌<◌, length, get_or, ap, arith}
use Rattle.bit_addressing_memory.specs.Memory.{read_by}
use Rattle.bit_addressing_span.specs.PartialElementMut.{part_words, part_head}
use Rattle.bit_addressing_memory.proofs.PartsLemmas.{stores_flipped}
use Rattle.bit_addressing_span.proofs.partial_mut.PartialElementMut.invert.Goals as goal

pub returns-clause-now : goal.returns-clause-now
returns-clause-now g c =
    let reading = read_by g.R.BitRegister g.O.Positions.position in
    let words = part_words c.args.self.now in
    let head = part_head c.args.self.now in
    let inside : 0 < length words = omega (arith, c.args.self.now.single) in
    let place : head ≡ 0 * reading.bits + head = omega arith in
    let same = ap (λ d. get_or words 0 d) c.index-self-0.is in
    stores_flipped reading words _ _ _ head 0 _ c.flipped-turned.result c.store_value.ensures.now
    c.flipped-turned.ensures same inside (omega arith) place

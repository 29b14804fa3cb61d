use Rattle.std.proofs.Common.{ℕ, ◌+◌, ◌<◌, length, get_or, ap, arith}
use Rattle.bit_addressing_memory.specs.Memory.{read_by}
use Rattle.bit_addressing_span.specs.Parts.{part_from}
use Rattle.bit_addressing_span.specs.DomainMut.{domain_span}
use Rattle.bit_addressing_memory.proofs.PartsLemmas.{stores_flipped}
use Rattle.bit_addressing_span.proofs.domain_mut.DomainMut.invert.Goals as goal

pub returns-clause-now : goal.returns-clause-now
returns-clause-now g c =
    let b : ℕ = g.R.BitRegister.BITS in
    let reading = read_by g.R.BitRegister g.O.Positions.position in
    let span = domain_span c.args.self.now in
    let words = c.args.self.now.words.now in
    let j : ℕ = span.word + c.args.k in
    let inside : j < length words = omega (arith, c.requires, c.args.self.now.fits) in
    let same = ap (λ d. get_or words j d) c.index-self-self.is in
    stores_flipped reading words _ _ _ (part_from b span c.args.k) j _ c.flipped-turned.result
    c.store_value.ensures.now c.flipped-turned.ensures same inside (omega arith) (omega arith)

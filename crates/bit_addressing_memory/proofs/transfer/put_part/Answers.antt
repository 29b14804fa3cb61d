use Rattle.bit_addressing_memory.proofs.Common.{◌≡◌, ◌+◌, ◌-◌, ◌*◌, ap, arith, read_by}
use Rattle.bit_addressing_memory.specs.Chunk.{chunk_bit}
use Rattle.bit_addressing_memory.proofs.PartsLemmas.{stores_as, stores_part}
use Rattle.bit_addressing_memory.proofs.transfer.put_part.Goals as goal

pub returns : goal.returns
returns g c =
    let bit = chunk_bit c.args.direction c.args.chunk in
    let from = c.args.from in
    stores_as (read_by g.R.BitRegister g.O.Positions.position) c.args.words.now _ (c.args.at * g.R.BitRegister.BITS + from)
    (c.args.upto - from) _ bit
    (stores_part _ c.args.words.now c.args.at _ _ from c.args.upto _ c.requires.inside c.index-words-at.is
    (omega (arith, c.requires.order)) c.requires.within (omega (arith, g.met.R.BitRegister.least_bits)) c.with_part.ensures)
    (λ k low.
    let back : from + k - from ≡ k = omega arith in
    ap bit back)

use Rattle.std.proofs.Common.{◌+◌, ◌*◌, ◌/◌, ◌<◌, length, refl, arith}
use Rattle.bit_addressing_memory.specs.Memory.{read_by}
use Rattle.bit_addressing_memory.proofs.BlockLemmas.{words_of_64, next_word, read_across}
use Rattle.bit_addressing_memory.proofs.blocks.read_block_from.Goals as goal

pub returns : goal.returns
returns g c =
    let b = g.R.BitRegister.BITS in
    let bits = c.bits_of.result in
    let first = c.args.first in
    let by = c.args.by in
    let some : 0 < by = omega arith in
    let words = words_of_64 b bits g.met.R.BitRegister.size c.requires.narrow c.bits_of.ensures in
    let within = next_word b bits first by (length c.args.words.now)
    g.met.R.BitRegister.size c.requires.narrow c.bits_of.ensures some c.requires.lies in
    read_across (read_by g.R.BitRegister g.O.Positions.position) c.args.straight.direction c.args.words.now
    (first * b + by) first by (first + 64 / bits) c.read_block-low.result c.part-next.result c.lowered.result c.raised.result
    _ c.index-words-behind.result refl some c.requires.index c.requires.narrow (omega arith) c.read_block-low.ensures
    c.part-next.ensures c.lowered.ensures c.raised.ensures refl within c.index-words-behind.is

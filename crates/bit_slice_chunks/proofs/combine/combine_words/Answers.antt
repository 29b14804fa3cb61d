use Rattle.std.proofs.Common.{◌+◌, ◌/◌, ◌%◌, ◌<◌, length, refl, arith}
use Rattle.bit_addressing_memory.specs.Memory.{read_by}
use Rattle.bit_addressing_memory.proofs.PlaceLemmas.{first_word}
use Rattle.bit_slice_chunks.specs.Combined.{combined_bit}
use Rattle.bit_addressing_memory.proofs.BlockLemmas.{words_of_64}
use Rattle.bit_slice_chunks.proofs.WholeLemmas.{word_behind}
use Rattle.bit_slice_chunks.proofs.CombineLemmas.{combined_across}
use Rattle.bit_slice_chunks.proofs.combine.combine_words.Goals as goal

pub word_at-requires : goal.word_at-requires
word_at-requires g c =
    word_behind g.R.BitRegister.BITS c.bits_of-bits.result c.args.place (length c.args.words.now)
    g.met.R.BitRegister.size c.requires.narrow c.bits_of-bits.ensures (omega arith) c.requires.lies.within

pub write_part-requires-clause-inside : goal.write_part-requires-clause-inside
write_part-requires-clause-inside g c =
    let within =
    word_behind g.R.BitRegister.BITS c.bits_of-bits.result c.args.place (length c.args.words.now)
    g.met.R.BitRegister.size c.requires.narrow c.bits_of-bits.ensures (omega arith) c.requires.lies.within in
    omega (arith, c.write_block-2.ensures.bits.words)

pub returns : goal.returns
returns g c =
    let b = g.R.BitRegister.BITS in
    let bits = c.bits_of-bits.result in
    let first = c.args.place / bits in
    let by = c.args.place % bits in
    let some : 0 < by = omega arith in
    let any : 0 < bits = omega (arith, g.met.R.BitRegister.least_bits, c.bits_of-bits.ensures) in
    let index : by < b = omega (arith, c.bits_of-bits.ensures) in
    let start = first_word b bits c.args.place c.bits_of-bits.ensures in
    let words = words_of_64 b bits g.met.R.BitRegister.size c.requires.narrow c.bits_of-bits.ensures in
    let within = word_behind b bits c.args.place (length c.args.words.now)
    g.met.R.BitRegister.size c.requires.narrow c.bits_of-bits.ensures some c.requires.lies.within in
    combined_across (read_by g.R.BitRegister g.O.Positions.position) c.args.straight.direction c.args.words.now
    c.write_block-2.new.words c.write_part.new.words c.args.place first by (first + 64 / bits) c.read_block-low.result
    c.raised.result c.combined-front.result c.first_bits.result c.last_bits.result _ c.part-last.result
    c.lowered.result c.combined-back.result c.args.other c.word_at.result (combined_bit c.args.how) start
    some index c.requires.narrow (omega arith) c.read_block-low.ensures c.raised.ensures c.combined-front.ensures
    c.first_bits.ensures c.last_bits.ensures refl c.part-last.ensures within c.word_at.ensures
    c.lowered.ensures c.combined-back.ensures c.write_block-2.ensures.bits c.write_part.ensures

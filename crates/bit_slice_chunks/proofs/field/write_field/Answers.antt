use Rattle.std.proofs.Common.{◌≡◌, ◌+◌, ◌-◌, ◌*◌, ◌/◌, ◌%◌, ◌≤◌, length, ap, ◌∙◌, arith}
use Rattle.bit_addressing_memory.specs.Prelude.{read_by}
use Rattle.bit_addressing_memory.specs.Chunk.{chunk_bit}
use Rattle.bit_addressing_memory.proofs.TransferLemmas.{less_words, overwrites_join}
use Rattle.bit_addressing_memory.proofs.BlockLemmas.{words_of_64, overwrites_of}
use Rattle.bit_slice_chunks.proofs.field.write_field.Goals as goal

pub has_block-requires-then-count-inner-2 : goal.has_block-requires-then-count-inner-2
has_block-requires-then-count-inner-2 g c =
    let narrow : g.R.BitRegister.BITS ≤ 64 = omega (arith, c.BITS.ensures) in
    let words = words_of_64 g.R.BitRegister.BITS c.bits_of.result g.met.R.BitRegister.size narrow c.bits_of.ensures in
    less_words (c.block_of-first.result + 64 / c.bits_of.result) (length c.args.words.now) g.R.BitRegister.BITS
    (omega (arith, words, c.block_of-first.ensures, c.requires.lies.within))

pub returns-then-has_block-2 : goal.returns-then-has_block-2
returns-then-has_block-2 g c =
    let b = g.R.BitRegister.BITS in
    let reading = read_by g.R.BitRegister g.O.Positions.position in
    let narrow : b ≤ 64 = omega (arith, c.BITS.ensures) in
    let words = words_of_64 b c.bits_of.result g.met.R.BitRegister.size narrow c.bits_of.ensures in
    let first = c.block_of-first.result in
    let place = c.args.place in
    let inner = 64 - place % 64 in
    let start = c.block_of-first.ensures in
    overwrites_join reading c.args.words.now c.write_within-then-has_block-2.new.words
    c.write_within-then-has_block-2-2.new.words place inner ((first + 64 / c.bits_of.result) * b + 0)
    (c.args.count - inner) c.args.count (chunk_bit c.args.straight.direction c.args.chunk)
    (chunk_bit c.args.straight.direction c.lowered-rest.result) (omega (arith, words, start)) (omega arith)
    (λ i low.
    let at : i + inner ≡ inner + i = omega arith in
    c.lowered-rest.ensures.inside i (omega arith) ∙ ap (chunk_bit c.args.straight.direction c.args.chunk) at)
    (overwrites_of reading c.args.words.now c.write_within-then-has_block-2.new.words (first * b + place % 64) inner
    place inner (chunk_bit c.args.straight.direction c.args.chunk) start (omega arith) c.write_within-then-has_block-2.ensures)
    c.write_within-then-has_block-2-2.ensures

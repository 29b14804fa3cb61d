use Rattle.bit_addressing_memory.proofs.Common.{◌≡◌, ◌+◌, ◌*◌, ◌/◌, ◌<◌, length, refl, ap, ◌∙◌, arith, read_by}
use Rattle.bit_addressing_memory.specs.Chunk.{chunk_bit}
use Rattle.bit_addressing_memory.proofs.BlockLemmas.{words_of_64, word_of_chunk, word_begins, scattered_more, overwrites_of}
use Rattle.bit_addressing_memory.proofs.Changes.{changed-set}
use Rattle.bit_addressing_memory.proofs.blocks.write_block.Goals as goal

pub overflow_add-first : goal.overflow_add-first
overflow_add-first g c =
    let some : 0 < g.R.BitRegister.BITS = omega (arith, g.met.R.BitRegister.least_bits) in
    let within =
    word_of_chunk g.R.BitRegister.BITS c.bits_of-bits.result c.args.first c.loop-k.k (length c.args.words.now)
    g.met.R.BitRegister.size c.requires.narrow c.bits_of-bits.ensures some (omega arith) c.requires.lies in
    omega (arith, within)

pub replace-requires : goal.replace-requires
replace-requires g c =
    let size = g.met.R.BitRegister.size in
    let some : 0 < g.R.BitRegister.BITS = omega (arith, g.met.R.BitRegister.least_bits) in
    let within =
    word_of_chunk g.R.BitRegister.BITS c.bits_of-bits.result c.args.first c.loop-k.k (length c.args.words.now) size
    c.requires.narrow c.bits_of-bits.ensures some (omega arith) c.requires.lies in
    omega (arith, c.loop-k.invariant.bits.words)

pub loop-k-preserved : goal.loop-k-preserved
loop-k-preserved g c =
    let b = g.R.BitRegister.BITS in
    let bits = c.bits_of-bits.result in
    let first = c.args.first in
    let k = c.loop-k.k in
    let size = g.met.R.BitRegister.size in
    let some : 0 < b = omega (arith, g.met.R.BitRegister.least_bits) in
    let low : k < 64 / bits = omega arith in
    let inside =
    word_of_chunk b bits first k (length c.args.words.now) size c.requires.narrow c.bits_of-bits.ensures some
    low c.requires.lies in
    let within : first + k < length c.loop-k.words = omega (arith, c.loop-k.invariant.bits.words) in
    let row : k * bits ≡ k * b = ap (λ n. k * n) c.bits_of-bits.ensures in
    let fits = word_begins b bits k size c.requires.narrow c.bits_of-bits.ensures low in
    record {
      bits = rw c.replace.ensures (scattered_more b g.R.BitRegister.number g.O.Positions.position
          c.args.straight.direction c.args.straight.goes c.args.words.now c.loop-k.words first k (first + k) (k * bits)
          c.args.chunk c.lowered-rest.result c.placed-word.result some refl row (omega arith) within c.lowered-rest.ensures
          c.placed-word.ensures c.loop-k.invariant.bits);
      few = λ number others. rw c.replace.ensures (omega (
        arith,
        changed-set number others c.loop-k.words (first + k) c.placed-word.result,
        c.loop-k.invariant.few number others,
      ));
    }

pub returns-clause-bits : goal.returns-clause-bits
returns-clause-bits g c =
    let b = g.R.BitRegister.BITS in
    let bits = c.bits_of-bits.result in
    let all : c.loop-k.k ≡ 64 / bits = omega arith in
    let row : c.loop-k.k * b ≡ 64 =
    ap (λ k. k * b) all
    ∙ words_of_64 b bits g.met.R.BitRegister.size c.requires.narrow c.bits_of-bits.ensures in
    overwrites_of (read_by g.R.BitRegister g.O.Positions.position) c.args.words.now c.loop-k.words
    (c.args.first * b) (c.loop-k.k * b) (c.args.first * b) 64 (chunk_bit c.args.straight.direction c.args.chunk) refl row
    c.loop-k.invariant.bits

pub returns-clause-few : goal.returns-clause-few
returns-clause-few g c number others =
    let last : c.loop-k.k ≡ 64 / c.bits_of-bits.result = omega arith in
    let all : c.loop-k.k ≡ 64 / g.R.BitRegister.BITS = last ∙ ap (λ n. 64 / n) c.bits_of-bits.ensures in
    omega (arith, all, c.loop-k.invariant.few number others)

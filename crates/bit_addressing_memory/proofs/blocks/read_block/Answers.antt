use Rattle.bit_addressing_memory.proofs.Common.{◌≡◌, ◌+◌, ◌*◌, ◌/◌, ◌<◌, length, refl, ap, ◌∙◌, arith, read_by}
use Rattle.bit_addressing_memory.proofs.TransferLemmas.{read_more}
use Rattle.bit_addressing_memory.proofs.BlockLemmas.{words_of_64, word_begins, word_of_chunk, read_whole}
use Rattle.bit_addressing_memory.proofs.blocks.read_block.Goals as goal

pub loop-k-preserved : goal.loop-k-preserved
loop-k-preserved g c =
    let b = g.R.BitRegister.BITS in
    let bits = c.bits_of-bits.result in
    let first = c.args.first in
    let k = c.loop-k.k in
    let size = g.met.R.BitRegister.size in
    let some : 0 < b = omega (arith, g.met.R.BitRegister.least_bits) in
    let within : first + k < length c.args.words.now =
    word_of_chunk b bits first k (length c.args.words.now) size c.requires.narrow c.bits_of-bits.ensures some
    (omega arith) c.requires.lies in
    let fits = word_begins b bits k size c.requires.narrow c.bits_of-bits.ensures (omega arith) in
    let row : k * bits ≡ k * b = ap (λ n. k * n) c.bits_of-bits.ensures in
    read_more (read_by g.R.BitRegister g.O.Positions.position) c.args.straight.direction c.args.words.now (first * b) 64
    (first + k) (k * bits) b c.loop-k.chunk c.part-next.result c.raised-chunk.result _ _ c.index-words-first.result
    (omega arith) (omega arith) (omega arith) (omega arith) (omega (arith, fits, row)) c.loop-k.invariant
    c.part-next.ensures c.raised-chunk.ensures refl within c.index-words-first.is

pub returns : goal.returns
returns g c =
    let b = g.R.BitRegister.BITS in
    let bits = c.bits_of-bits.result in
    let all : c.loop-k.k ≡ 64 / bits = omega arith in
    let row : c.loop-k.k * b ≡ 64 =
    ap (λ k. k * b) all
    ∙ words_of_64 b bits g.met.R.BitRegister.size c.requires.narrow c.bits_of-bits.ensures in
    read_whole (read_by g.R.BitRegister g.O.Positions.position) c.args.words.now (c.args.first * b)
    ((c.args.first + c.loop-k.k) * b) c.args.straight.direction c.loop-k.chunk (omega arith) c.loop-k.invariant

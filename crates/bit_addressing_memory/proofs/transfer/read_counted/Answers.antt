use Rattle.std.proofs.Common.{◌≡◌, ◌+◌, ◌-◌, ◌*◌, ◌/◌, ◌<◌, length, refl, ap, arith}
use Rattle.bit_addressing_memory.specs.Memory.{read_by}
use Rattle.bit_addressing_memory.proofs.PlaceLemmas.{first_word, begins_behind}
use Rattle.bit_addressing_memory.proofs.TransferLemmas.{first_in, word_in, read_first, read_more}
use Rattle.bit_addressing_memory.proofs.transfer.read_counted.Goals as goal

pub loop-k-init : goal.loop-k-init
loop-k-init g c =
    let b = g.R.BitRegister.BITS in
    let bits = c.bits_of-bits.result in
    let first = c.args.place / bits in
    let some : 0 < b = omega (arith, g.met.R.BitRegister.least_bits) in
    let within : first < length c.args.words.now =
    first_in b bits c.args.place c.args.count (length c.args.words.now) c.bits_of-bits.ensures some c.requires.some
    c.requires.lies.within in
    record {
      chunk =
          read_first (read_by g.R.BitRegister g.O.Positions.position) c.args.direction c.args.words.now c.args.place
          c.args.count first _ c.min-inner.result c.part_of-chunk.result _ c.index-words-first.result
          (first_word b bits c.args.place c.bits_of-bits.ensures) refl c.requires.few
          (rw (← c.bits_of-bits.ensures) c.min-inner.ensures) c.part_of-chunk.ensures within c.index-words-first.is;
      reads = omega arith;
    }

pub loop-k-preserved : goal.loop-k-preserved
loop-k-preserved g c =
    let b = g.R.BitRegister.BITS in
    let bits = c.bits_of-bits.result in
    let k = c.loop-k.k in
    let place = c.args.place in
    let some : 0 < b = omega (arith, g.met.R.BitRegister.least_bits) in
    let begins : place < k * b =
    begins_behind b bits place k c.bits_of-bits.ensures some (omega arith) in
    let within : k < length c.args.words.now =
    word_in b bits (place + c.args.count) k (length c.args.words.now) c.bits_of-bits.ensures some (omega arith)
    (omega arith) c.requires.lies.within in
    let row : k * bits ≡ k * b = ap (λ n. k * n) c.bits_of-bits.ensures in
    record {
      chunk =
          read_more (read_by g.R.BitRegister g.O.Positions.position) c.args.direction c.args.words.now place c.args.count k
          (k * bits - place) c.min-upto.result c.loop-k.chunk c.part_of-next.result c.raised-chunk.result _ _
          c.index-words-k.result (omega arith) (omega arith) refl c.requires.few
          (omega (arith, c.min-upto.ensures, c.bits_of-bits.ensures)) c.loop-k.invariant.chunk c.part_of-next.ensures
          c.raised-chunk.ensures refl within c.index-words-k.is;
      reads = omega (arith, c.loop-k.invariant.reads);
    }
